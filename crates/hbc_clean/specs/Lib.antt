pub mod Strings
pub mod Bundle
pub mod Private
