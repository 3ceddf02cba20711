pub mod Rows
pub mod Ones
