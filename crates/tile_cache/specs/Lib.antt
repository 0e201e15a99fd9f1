-- The definitions of the cache: ways in order, copies of a line, and victims.

pub mod Cache
pub mod Copy
pub mod Change
pub mod Kept
