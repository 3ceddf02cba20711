pub mod Plan
pub mod Faced
pub mod Slots
