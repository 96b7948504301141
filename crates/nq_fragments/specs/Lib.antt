pub mod Propositions
pub mod Tautologies
pub mod Instances
pub mod Fragments
pub mod Outcomes
pub mod Openings
pub mod Evaluation
pub mod EvaluationExamples
