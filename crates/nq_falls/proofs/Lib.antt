pub mod TestLemmas
mod DifferenceFalls
pub mod GroundFalls
