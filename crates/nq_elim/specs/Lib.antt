pub mod Cases
pub mod Candidates
pub mod Reasons
pub mod Eliminations
