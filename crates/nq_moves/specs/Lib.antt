-- What code holds.
pub mod Found
pub mod Dropped
pub mod Knowing
pub mod Carrying
pub mod Equal
pub mod Back
pub mod Exchanging
pub mod Laws
pub mod Fertilized
pub mod Swapped
pub mod Renamed
pub mod Eliminated
pub mod Naming
pub mod Ways
pub mod OfTable
pub mod UsedNames
pub mod Numbering
