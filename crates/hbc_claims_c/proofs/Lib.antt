pub mod Left
pub mod Why
pub mod Unique
