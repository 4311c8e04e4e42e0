pub mod ByLayouts
pub mod Grounds
pub mod OneRow
