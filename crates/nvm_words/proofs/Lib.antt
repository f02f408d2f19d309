pub mod Any
pub mod Lines
pub mod Contents
pub mod Listed
pub mod Owned
pub mod Performing
pub mod Counted
