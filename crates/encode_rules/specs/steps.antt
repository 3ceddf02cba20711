pub mod Digits
pub mod Search
pub mod Can
pub mod Direct
