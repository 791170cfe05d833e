pub mod Replies
pub mod Sides
