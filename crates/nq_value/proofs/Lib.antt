pub mod NumeralLemmas
pub mod ObjectLemmas
pub mod SameLemmas
pub mod TableLemmas
pub mod MakingLemmas
pub mod CallLemmas
