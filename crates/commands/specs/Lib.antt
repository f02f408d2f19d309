pub mod Verbs
pub mod Commands
pub mod Records
pub mod Comebacks
