pub mod Law
pub mod Tests
pub mod Terms
