pub mod Slots
pub mod Filling
pub mod Grounds
pub mod Sweeping
pub mod Exits
