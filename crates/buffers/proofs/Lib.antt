pub mod Bounds
pub mod Cuts
