pub mod ByFile
pub mod Laws
pub mod Passes
pub mod Plains
pub mod Sums
