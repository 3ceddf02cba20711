pub mod Halves
pub mod Table74
pub mod Table76
pub mod Table7E
