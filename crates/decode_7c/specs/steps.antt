pub mod Op7C
pub mod Op7D
pub mod Shared
