pub mod Valid
pub mod Behind
