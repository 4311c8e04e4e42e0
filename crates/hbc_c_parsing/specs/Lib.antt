pub mod Parsing
pub mod Private
