pub mod Clear
pub mod Pieces
pub mod Parts
pub mod Loops
