pub mod Law
pub mod Tests
