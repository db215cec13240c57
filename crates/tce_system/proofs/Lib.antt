pub mod Pieces
pub mod Seen
pub mod Zeros
pub mod Counted
pub mod Tables
