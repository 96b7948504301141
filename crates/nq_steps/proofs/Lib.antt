pub mod StackLemmas
pub mod NameLemmas
pub mod MakingLemmas
