pub mod Table
pub mod Entry
