pub mod Called
pub mod Machine
