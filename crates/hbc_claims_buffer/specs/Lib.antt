pub mod Unique
pub mod Refused
pub mod Used
pub mod Tags
