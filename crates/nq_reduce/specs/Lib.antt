pub mod Rewriting
pub mod Held
pub mod Clauses
pub mod Values
pub mod Equations
