pub mod Rows
pub mod State
pub mod Parts
pub mod Any
