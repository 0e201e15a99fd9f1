-- The definitions of parked threads, and of who is woken.

pub mod Entries
pub use Rattle.serving.specs.ControlData
pub use Rattle.serving.specs.Wake
