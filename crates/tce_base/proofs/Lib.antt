pub mod WordBytes
pub mod Words
