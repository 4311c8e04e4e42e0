pub mod Write
pub mod Private
