pub mod CheckedLemmas
pub mod ClosedLemmas
pub mod FreshLemmas
pub mod ReadyLemmas
