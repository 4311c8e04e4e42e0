pub mod Unique
pub mod Rules
pub mod Judging
pub mod Cases
