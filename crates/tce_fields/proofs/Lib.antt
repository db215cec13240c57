pub mod Decimals
pub mod Listing
pub mod Named
pub mod Splitting
pub mod Digits
