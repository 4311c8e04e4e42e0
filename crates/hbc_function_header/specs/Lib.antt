pub mod Header
pub mod Meets
pub mod Private
