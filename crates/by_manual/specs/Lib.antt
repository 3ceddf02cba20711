pub mod Changed
pub mod Table
pub mod Lists
