pub mod Pieces
pub mod Devices
pub mod Words
pub mod Sectors
