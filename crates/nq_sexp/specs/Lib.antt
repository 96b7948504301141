pub mod Tree
pub mod Held
pub mod Kind
pub mod Stacks
pub mod Modes
pub mod Halt
pub mod Whole
