pub mod Lebs
pub mod Slebs
pub mod Exacts
pub mod Numbers
pub mod Bits
pub mod Signed
pub mod Moves
pub mod Helds
