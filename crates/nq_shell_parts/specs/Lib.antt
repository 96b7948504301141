pub mod LawClauses
pub mod Summands
