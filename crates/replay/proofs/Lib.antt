pub mod Answer
pub mod Encoded
pub mod Places
pub mod Swept
pub mod Bytes
pub mod Lines
pub mod Asked
