pub mod Outcomes
pub mod Laws
