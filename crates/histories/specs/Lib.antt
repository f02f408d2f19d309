pub mod History
pub mod Masts
pub mod Requests
