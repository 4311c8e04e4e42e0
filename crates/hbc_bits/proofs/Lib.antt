pub mod Laws
pub mod Fields
