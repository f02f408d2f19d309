pub mod Admitted
pub mod Ordered
