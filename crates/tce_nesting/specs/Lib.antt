pub mod Classes
pub mod Subsets
pub mod Choices
pub mod Plan
pub mod Laws
pub mod Ends
pub mod Stretches
