pub mod Why
pub mod Handlers
pub mod Private
