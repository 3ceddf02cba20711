pub mod Bytes
pub mod First
pub mod Readings
