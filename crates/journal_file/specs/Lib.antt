-- The definitions of a journal's file and its faults.

pub mod File
pub mod Laws
pub mod Reading
