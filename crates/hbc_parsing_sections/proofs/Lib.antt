pub mod Laid
pub mod Laws
