pub mod Behind
pub mod Coded
pub mod Filled
