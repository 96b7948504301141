pub mod StepLemmas
pub mod RowLemmas
