pub mod Sums
pub mod Kepts
