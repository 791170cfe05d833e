pub mod Services
pub mod Cars
pub mod Standings
pub mod Views
pub mod Sounds
