pub mod Literals
pub mod Candidates
pub mod Found
pub mod Laws
