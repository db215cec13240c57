pub mod Program
pub mod Execution
pub mod Plan
pub mod Shape
pub mod CodeFor
pub mod Generation
pub mod Emission
pub mod Examples
