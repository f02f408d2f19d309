pub mod Ends
pub mod Heard
pub mod Happened
pub mod Lists
