pub mod Units
pub mod Sizes
pub mod Steps
pub mod Whole
pub mod Weights
