pub mod Mentions
pub mod Calls
pub mod Falls
pub mod Laws
