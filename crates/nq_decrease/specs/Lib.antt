pub mod Guards
pub mod OwnGuards
pub mod Levels
pub mod OwnLevels
pub mod LawLines
pub mod Nests
pub mod Laws
