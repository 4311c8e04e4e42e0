pub mod Unique
pub mod Rules
pub mod Bundle
pub mod Cases
