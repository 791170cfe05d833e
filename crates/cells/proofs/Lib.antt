pub mod Places
pub mod Rows
pub mod Kept
pub mod Found
pub mod Restored
