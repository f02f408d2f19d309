pub mod Fields
pub mod Lists
