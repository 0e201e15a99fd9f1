pub mod Queues
pub mod Runs
pub mod Unrolling
pub mod Views
