pub mod Kinds
pub mod Hermes
pub mod Entries
pub mod Row
pub mod Strings
pub mod Private
