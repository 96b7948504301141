pub mod TypeSets
pub mod Kinds
pub mod Parts
pub mod Finding
pub mod Shown
pub mod Guessing
pub mod Outside
