pub mod Functions
pub mod Claims
