pub mod LawClauses
