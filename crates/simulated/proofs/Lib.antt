pub mod Members
pub mod Flags
pub mod Lent
pub mod Laws
pub mod Lasting
