pub mod Headers
pub mod Meetings
