pub mod Said
pub mod Machines
pub mod Lines
