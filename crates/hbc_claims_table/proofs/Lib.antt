pub mod Unique
pub mod Tables
pub mod Strings
pub mod Modes
