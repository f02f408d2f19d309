pub mod Loading
pub mod Looking
pub mod Rowing
pub mod Nexts
pub mod Laying
pub mod Sweeping
pub mod Naming
pub mod Ending
