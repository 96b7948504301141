pub mod GrownLemmas
pub mod ClaimLemmas
pub mod InstanceLemmas
pub mod GoalLemmas
pub mod ClosingLemmas
pub mod CaseLemmas
pub mod ClosedLemmas
