pub mod Marks
pub mod Cells
pub mod Meant
pub mod Acts
pub mod Looks
pub mod Made
