pub mod GroundLemmas
pub mod ValueLemmas
