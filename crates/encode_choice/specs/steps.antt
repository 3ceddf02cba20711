pub mod Forms
pub mod Coarse
pub mod Choose
pub mod Coded
pub mod NameSet
