pub mod Words
pub mod Told
pub mod Failures
pub mod Requests
pub mod Fills
