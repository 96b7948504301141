pub mod Conclusions
pub mod Results
pub mod Branches
pub mod Places
pub mod Sides
pub mod Inductions
