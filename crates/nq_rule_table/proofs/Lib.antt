mod PartLemmas
mod InstanceLemmas
mod ListLemmas
mod RuleLemmas
mod EnabledLemmas
pub mod TableLemmas
