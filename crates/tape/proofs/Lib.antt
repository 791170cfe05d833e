pub mod Judged
pub mod Faults
pub mod Frames
pub mod Inverted
