pub mod RewritingLemmas
pub mod ArgumentLemmas
pub mod HeldLemmas
pub mod ClauseLemmas
pub mod DroppingLemmas
pub mod ValueLemmas
pub mod StepLemmas
pub mod ShellLemmas
pub mod EqualLemmas
mod IrreflexiveLemmas
