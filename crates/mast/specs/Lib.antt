pub mod Names
pub mod Masts
pub mod Texts
pub mod Laws
pub mod Units
