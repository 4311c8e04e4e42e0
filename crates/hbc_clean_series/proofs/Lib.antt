pub mod Gaps
pub mod Highs
pub mod Exits
