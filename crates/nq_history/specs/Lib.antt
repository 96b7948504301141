pub mod Events
pub mod Functions
pub mod GroundTable
pub mod Hints
pub mod Lookups
pub mod Marking
pub mod Places
pub mod ShellLists
