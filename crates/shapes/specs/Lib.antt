pub mod Forms
pub mod Rows
pub mod Held
pub mod Tables
pub mod Laid
