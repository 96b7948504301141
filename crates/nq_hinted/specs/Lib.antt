pub mod Nests
pub mod Cited
pub mod Answers
