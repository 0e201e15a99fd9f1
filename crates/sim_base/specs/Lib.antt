-- The definitions of numbers in bytes, settings, and the numbers of nodes.

pub mod LittleEndian
pub mod Names
pub mod Numbering
pub mod Ranges
pub mod Saturated
pub mod Settings
