pub mod Said
pub mod Texts
pub mod Laws
