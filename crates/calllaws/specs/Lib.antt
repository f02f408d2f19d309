pub mod Holds
pub mod CommitLaw
pub mod CheckpointLaw
pub mod FormatLaw
