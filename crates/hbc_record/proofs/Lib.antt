pub mod Alone
pub mod Recorded
