pub mod Leb128
pub mod Unique
pub mod Reader
