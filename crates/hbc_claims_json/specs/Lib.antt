pub mod Rfc8259
pub mod Array
pub mod Rows
pub mod Put
pub mod Cases
pub mod Unique
