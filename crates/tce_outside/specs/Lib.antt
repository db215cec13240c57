pub mod Files
pub mod Fault
pub mod Memory
pub mod Schedule
pub mod Laws
