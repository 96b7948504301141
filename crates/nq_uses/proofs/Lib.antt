pub mod Denials
pub mod Overs
