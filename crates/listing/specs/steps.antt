pub mod Page
pub mod Starts
