pub mod Ground
pub mod Values
