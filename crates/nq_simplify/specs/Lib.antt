pub mod Ways
pub mod Inside
pub mod Splitting
pub mod BranchRows
pub mod Simplified
pub mod Laws
