pub mod Told
pub mod Holes
pub mod Kept
pub mod Counted
