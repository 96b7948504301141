pub mod FailingLemmas
pub mod Begun
pub mod TracingLemmas
