pub mod Performing
pub mod Stands
pub mod Cut
pub mod Main
