pub mod Running
pub mod Laying
