pub mod Names
pub mod Closings
pub mod Blocks
pub mod OpenLogs
pub mod Writing
