pub mod Seen
pub mod Reading
