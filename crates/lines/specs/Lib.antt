pub mod Pieces
pub mod Splits
pub mod Numerals
pub mod Fields
