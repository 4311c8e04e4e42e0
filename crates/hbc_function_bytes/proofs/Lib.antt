pub mod FourWords
pub mod Sums
pub mod Words
