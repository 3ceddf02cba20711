pub mod Small
pub mod Outcomes
pub mod Grouped
pub mod Few
pub mod There
pub mod TwoBytes
