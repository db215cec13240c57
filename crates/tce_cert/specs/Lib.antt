pub mod Certificate
pub mod Faults
pub mod Reading
pub mod Laws
pub mod Lines
pub mod Forms
pub mod Cut
pub mod Cursors
