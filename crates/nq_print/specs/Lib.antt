pub mod Shapes
pub mod Pieces
pub mod Letters
pub mod Atoms
pub mod Known
pub mod ObjectShapes
