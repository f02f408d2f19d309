pub mod Rings
pub mod Scans
pub mod Making
pub mod Filling
