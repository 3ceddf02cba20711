pub mod Numbered
pub mod Places
pub mod Set
pub mod Told
pub mod Width
