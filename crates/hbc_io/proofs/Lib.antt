pub mod Reading
pub mod Plains
pub mod Aligns
pub mod Alone
pub mod Exits
pub mod Moves
