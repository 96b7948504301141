pub mod Literals
pub mod Shaped
pub mod Falsehoods
pub mod FailedFalsehoods
pub mod Laws
