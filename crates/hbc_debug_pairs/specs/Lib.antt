pub mod Pairs
pub mod Private
