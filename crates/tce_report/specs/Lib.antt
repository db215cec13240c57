pub mod Fields
pub mod FormCode
pub mod Laws
pub mod Names
pub mod NodeForm
pub mod NodeLine
pub mod ReadLine
pub mod Report
