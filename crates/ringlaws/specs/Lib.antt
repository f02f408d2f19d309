pub mod Layout
pub mod TxnInfo
pub mod Spells
pub mod Sound
pub mod Newest
pub mod Appends
pub mod Laws
pub mod Examples
