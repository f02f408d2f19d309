pub mod Fields
pub mod FromFn
pub mod Parts
