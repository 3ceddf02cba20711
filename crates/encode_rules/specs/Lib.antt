pub mod Says
pub mod Written
pub mod Bench
pub mod steps
