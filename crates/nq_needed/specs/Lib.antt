pub mod Renumbering
pub mod Keeping
