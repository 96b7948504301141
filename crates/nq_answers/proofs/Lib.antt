pub mod Joined
pub mod SmallTautologies
pub mod Instances
pub mod Deriving
pub mod OneRun
