pub mod NodeLines
pub mod Declared
pub mod NodeLineForms
pub mod Joined
pub mod Numbers
pub mod Reading
pub mod Written
pub mod Lists
