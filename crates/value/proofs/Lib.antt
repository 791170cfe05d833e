pub mod Divides
pub mod Laws
