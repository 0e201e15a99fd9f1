pub mod Events
pub mod Readings
