pub mod Legal
pub mod Plain
pub mod Candidates
pub mod Above
pub mod Forms
pub mod Leaving
pub mod Inducting
pub mod Turning
