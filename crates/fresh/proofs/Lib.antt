pub mod Freshly
