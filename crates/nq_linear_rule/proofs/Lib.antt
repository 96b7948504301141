pub mod ShapeLemmas
pub mod AtomLemmas
pub mod ScaledLemmas
pub mod KnownLemmas
pub mod GrownSums
