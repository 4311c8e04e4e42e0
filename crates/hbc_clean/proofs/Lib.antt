pub mod Runs
pub mod Judging
pub mod Verdicts
