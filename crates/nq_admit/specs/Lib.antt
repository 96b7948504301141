pub mod Formals
pub mod Admission
