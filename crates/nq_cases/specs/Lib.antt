pub mod Simplifying
pub mod Paths
pub mod Splits
pub mod Laws
pub mod CountLaws
pub mod Counts
pub mod Choices
pub mod Cases
