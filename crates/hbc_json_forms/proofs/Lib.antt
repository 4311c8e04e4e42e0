pub mod Laws
pub mod Split
pub mod Wide
pub mod Array
