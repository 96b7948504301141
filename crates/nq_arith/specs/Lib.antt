pub mod NumeralLaws
pub mod NamedLaws
pub mod Laws
pub mod Nests
pub mod Openings
pub mod Structural
