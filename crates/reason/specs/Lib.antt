pub mod Layers
pub mod Numbers
pub mod Words
