pub mod Table7C
pub mod Table7D
pub mod TableEB
pub mod Table7C7D
pub mod AsRows
