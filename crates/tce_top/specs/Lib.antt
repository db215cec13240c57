pub mod Performed
pub mod Cause
pub mod Outcome
pub mod Answer
pub mod Laws
