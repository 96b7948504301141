pub mod Acceptance
pub mod DraftLemmas
pub mod DeepLiterals
pub mod RowLemmas
pub mod AxiomRows
