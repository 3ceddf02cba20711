pub mod Outcomes
pub mod Laws
pub mod Bench
