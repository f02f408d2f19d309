pub mod Ranges
pub mod Tiles
pub mod Texts
pub mod Laws
pub mod Units
