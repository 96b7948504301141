pub mod NameLemmas
pub mod GoalLemmas
pub mod CountedLemmas
pub mod SuggestingLemmas
