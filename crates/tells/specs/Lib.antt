pub mod Tells
pub mod steps
