pub mod Unique
pub mod Refused
pub mod Used
pub mod Values
pub mod Parts
pub mod Tags
