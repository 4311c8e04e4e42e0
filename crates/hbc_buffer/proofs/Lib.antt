pub mod Tags
pub mod Runs
pub mod Fills
pub mod Passes
pub mod Going
pub mod Exits
