pub mod Places
pub mod Known
pub mod Steps
pub mod Single
pub mod Laws
pub mod Owed
pub mod Suggesting
