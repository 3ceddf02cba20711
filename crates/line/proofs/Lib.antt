pub mod Digits
pub mod Signs
pub mod Packing
pub mod Unpacked
pub mod Spelling
pub mod Room
pub mod Lined
pub mod Outcomes
