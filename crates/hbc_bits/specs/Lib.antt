pub mod Bits
pub mod Fields
