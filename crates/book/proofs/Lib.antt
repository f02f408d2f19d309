pub mod Goods
pub mod Follows
pub mod Went
pub mod WentDark
pub mod Formats
pub mod Main
