pub mod Steps
pub mod Slots
pub mod Filling
