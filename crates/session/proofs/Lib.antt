pub mod Speaking
pub mod Going
