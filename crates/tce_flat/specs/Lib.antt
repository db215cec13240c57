pub mod Tensors
pub mod Refusals
pub mod May
pub mod Done
pub mod Tools
pub mod NoHalf
pub mod Told
pub mod Laws
