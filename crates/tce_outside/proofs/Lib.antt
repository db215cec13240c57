pub mod Places
pub mod Files
pub mod Puts
pub mod Told
pub mod Overwrites
pub mod Causes
