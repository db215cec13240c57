pub mod Digits
pub mod Fields
pub mod Names
pub mod Reading
