pub mod Definitions
pub mod Barred
pub mod Sought
pub mod Variables
pub mod Parts
pub mod Rules
pub mod Plain
pub mod Suggesting
