pub mod Sets
pub mod Ranges
mod Held
mod Counts
