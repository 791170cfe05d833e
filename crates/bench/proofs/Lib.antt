pub mod Codes
pub mod Served
