pub mod Lines
pub mod Pages
pub mod Bench
pub mod Starts
