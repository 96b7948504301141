pub mod Goals
pub mod Suggesting
