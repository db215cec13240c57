pub mod Storage
pub mod Faults
pub mod Laws
pub mod Lines
pub mod Cells
pub mod TileRows
pub mod Told
pub mod Sources
