pub mod Each
pub mod Changes
pub mod Passing
pub mod Agreement
