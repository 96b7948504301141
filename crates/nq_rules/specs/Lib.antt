pub mod Heads
pub mod Variables
