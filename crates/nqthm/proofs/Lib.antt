pub mod NumberLemmas
pub mod Endings
pub mod Accepted
