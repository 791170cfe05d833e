pub mod Entries
pub mod Judgement
pub mod Plays
pub mod Views
pub mod Rules
pub mod Fills
pub mod Sounds
