pub mod Failing
pub mod Tracing
