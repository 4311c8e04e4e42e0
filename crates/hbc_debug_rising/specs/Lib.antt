pub mod Rising
pub mod Private
