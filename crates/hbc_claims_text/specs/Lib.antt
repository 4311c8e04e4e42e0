pub mod Utf8
pub mod Utf16
pub mod Put
pub mod Row
pub mod Unique
