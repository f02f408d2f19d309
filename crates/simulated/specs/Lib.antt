pub mod Lists
pub mod Listing
pub mod Power
pub mod Natures
pub mod Lasting
