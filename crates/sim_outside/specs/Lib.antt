-- The definitions of files and streams, and of how they fail.

pub mod Fault
pub mod Told
pub mod Files
pub mod Sink
pub mod Memory
