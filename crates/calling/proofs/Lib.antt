pub mod Stepping
pub mod Mounted
pub mod Looking
pub mod Asking
