pub mod Sections
pub mod Laid
