pub mod Tables
pub mod Uncounted
pub mod Replaying
pub mod Parts
pub mod LawClauses
