pub mod LeftLemmas
pub mod PartLemmas
