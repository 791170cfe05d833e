pub mod Cars
pub mod Visits
