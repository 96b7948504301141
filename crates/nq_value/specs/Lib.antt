pub mod Objects
pub mod RowNames
pub mod Rows
pub mod Passing
pub mod Answers
