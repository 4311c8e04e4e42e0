pub mod Rows
pub mod Until
