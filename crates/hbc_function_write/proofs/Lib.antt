pub mod Places
pub mod Plans
pub mod Plains
pub mod Turns
pub mod Far
pub mod Checking
pub mod Writing
