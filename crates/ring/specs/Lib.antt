pub mod Sources
pub mod Walks
