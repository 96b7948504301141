pub mod NormalClauses
pub mod DroppedLiterals
pub mod Truths
pub mod FalseClauses
pub mod FailedTrees
