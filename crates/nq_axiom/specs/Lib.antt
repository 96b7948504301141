pub mod Steps
pub mod Table
pub mod Openings
pub mod Drafts
pub mod Axioms
