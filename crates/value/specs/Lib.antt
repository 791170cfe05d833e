pub mod Values
pub mod Texts
pub mod Binary
pub mod Unary
pub mod Laws
