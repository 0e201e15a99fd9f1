pub mod Waking
pub mod Orderly
