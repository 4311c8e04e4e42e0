pub mod Steps
pub mod Keeping
pub mod Copies
pub mod Measuring
pub mod Putting
