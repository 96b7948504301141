pub mod Literals
pub mod Pairs
pub mod Filters
pub mod Rows
pub mod Inequalities
pub mod Causes
pub mod Answers
pub mod Refuting
