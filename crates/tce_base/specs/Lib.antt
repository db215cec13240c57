pub mod Word
pub mod Laws
