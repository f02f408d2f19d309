pub mod Regions
pub mod Promptly
pub mod Parted
