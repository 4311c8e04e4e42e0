pub mod AllRead
pub mod Callees
pub mod Cases
pub mod Left
pub mod DebugRows
pub mod Marks
pub mod Unique
