pub mod Numbers
pub mod Names
pub mod Parts
pub mod Numbered
pub mod Blank
pub mod Same
pub mod Signed
pub mod Answer
