pub mod Large
pub mod Private
