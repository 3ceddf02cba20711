pub mod Characters
pub mod Names
pub mod Line
pub mod Left
pub mod steps
