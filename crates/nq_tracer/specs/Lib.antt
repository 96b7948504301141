pub mod Falls
pub mod Cases
pub mod Sites
pub mod Leads
pub mod Steps
