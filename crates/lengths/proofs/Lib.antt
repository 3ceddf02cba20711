pub mod Fated
pub mod Place
pub mod Rule
pub mod Laws
pub mod Asking
pub mod Zeros
pub mod Bounds
pub mod Examples
