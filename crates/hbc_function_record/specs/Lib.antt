pub mod BitLayout
pub mod Record
pub mod Row
pub mod Private
