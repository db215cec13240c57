pub mod Refused
pub mod Faults
pub mod Outcomes
pub mod Read
pub mod Numbers
pub mod Commands
pub mod Statuses
