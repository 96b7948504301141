pub mod Pairs
pub mod Judging
pub mod Measures
pub mod Trials
pub mod Admitting
