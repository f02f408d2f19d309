pub mod Places
pub mod Infos
pub mod Units
pub mod Back
pub mod Bad
pub mod Seek
pub mod Append
pub mod Examples
