pub mod Entries
pub mod Choose
pub mod Sets
