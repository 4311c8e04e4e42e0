pub mod Unique
pub mod Left
pub mod Within
pub mod Before
pub mod Modes
