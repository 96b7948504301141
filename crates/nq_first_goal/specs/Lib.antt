pub mod Judging
pub mod Falsehoods
