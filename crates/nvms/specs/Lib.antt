pub mod Natures
pub mod States
