pub mod Decoded
pub mod steps
