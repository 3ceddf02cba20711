pub mod Choice
pub mod Range
pub mod Table
pub mod Over
pub mod Text
