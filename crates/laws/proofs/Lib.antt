pub mod Agree
pub mod Choice
pub mod Range
pub mod Rest
pub mod Over
pub mod Table
pub mod Exit
