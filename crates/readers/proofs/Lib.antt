pub mod Told
pub mod Names
pub mod Nibble
pub mod Found
pub mod Results
pub mod RowSteps
