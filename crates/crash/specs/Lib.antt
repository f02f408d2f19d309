pub mod Runs
pub mod Acts
pub mod Keeping
pub mod Rows
pub mod Narrow
pub mod Crash
pub mod Pair
pub mod Phases
