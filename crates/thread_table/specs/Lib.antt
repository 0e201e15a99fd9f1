-- The definitions of threads' fates by number.

pub mod Threads
pub use Rattle.serving.specs.ControlData
pub use Rattle.serving.specs.Join
