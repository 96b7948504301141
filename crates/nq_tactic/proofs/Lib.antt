mod LineLemmas
mod ProverLemmas
mod TacticLemmas
mod WayLemmas
mod KnownLemmas
mod ObjectLemmas
mod CircleLemmas
mod LearningLemmas
