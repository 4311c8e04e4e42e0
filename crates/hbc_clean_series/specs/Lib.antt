pub mod Series
pub mod Private
