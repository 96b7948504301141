pub mod Pairs
pub mod Calls
pub mod Candidates
pub mod Common
pub mod Destructors
pub mod Left
