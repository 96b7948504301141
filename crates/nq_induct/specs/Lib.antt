pub mod Claims
pub mod Schemes
pub mod Goals
pub mod Instances
