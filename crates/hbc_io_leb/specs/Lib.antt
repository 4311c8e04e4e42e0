pub mod Leb
pub mod Answers
pub mod Numbers
pub mod Signed
pub mod Private
