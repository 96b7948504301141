pub mod NestLines
pub mod NestLemmas
pub mod CitedLemmas
pub mod CutLemmas
pub mod TermLemmas
pub mod UnwindLemmas
pub mod HintedLemmas
