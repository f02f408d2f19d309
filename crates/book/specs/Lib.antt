pub mod Book
pub mod Runs
pub mod Commits
pub mod Promise
