pub mod Cases
pub mod Unique
pub mod Records
pub mod Proved
