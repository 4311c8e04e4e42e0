pub mod Code
pub mod Told
