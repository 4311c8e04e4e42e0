pub mod Rising
pub mod Heaps
pub mod Sorts
pub mod Keeping
pub mod Giving
pub mod Batches
