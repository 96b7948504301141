pub mod Kinds
pub mod Trails
pub mod Ready
pub mod Turns
pub mod Halts
pub mod Solved
pub mod Outcomes
pub mod Uses
