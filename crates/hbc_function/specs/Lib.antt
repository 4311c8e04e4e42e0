pub mod Table
pub mod Refresh
pub mod Private
