pub mod Committing
