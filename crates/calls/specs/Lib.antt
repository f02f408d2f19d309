pub mod Table
pub mod Acts
pub mod Judge
pub mod Plans
pub mod Steps
