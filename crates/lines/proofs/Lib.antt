pub mod Cutting
pub mod Found
pub mod Reading
