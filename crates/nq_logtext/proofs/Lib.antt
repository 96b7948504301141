pub mod Cuts
pub mod Numbers
pub mod Runs
pub mod Constituents
pub mod FieldLaws
pub mod LineLaws
