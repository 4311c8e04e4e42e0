pub mod Utf8
pub mod Parts
pub mod Scalars
pub mod Utf16
pub mod Text
