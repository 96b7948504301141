pub mod Admission
pub mod Rows
pub mod Drafts
pub mod Axioms
