-- Goals.
pub mod Hints
pub mod Occurrences
pub mod Functions
pub mod Matching
pub mod Normal
pub mod Paths
-- Moves.
pub mod Recursion
pub mod Equations
pub mod Replacing
pub mod NewVariables
pub mod Substituting
pub mod Generalizing
pub mod Eliminating
pub mod Fertilizing
pub mod Dropping
pub mod Simplifying
pub mod SimplifyingLaws
pub mod Inducting
pub mod Moves
-- Failures.
pub mod Spent
pub mod Trees
pub mod Forests
pub mod Solving
pub mod Decided
-- Examples.
pub mod NormalExamples
pub mod MoveExamples
pub mod SpentExamples
pub mod InductionExamples
pub mod DecidedExamples
