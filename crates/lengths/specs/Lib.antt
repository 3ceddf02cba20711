pub mod Length
pub mod steps
