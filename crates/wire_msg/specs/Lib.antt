-- The definitions of messages, routes and numbers of errors.

pub mod ErrorNumber
pub mod Threads
pub mod Message
pub use Rattle.sim_base.specs.Numbering
pub use Rattle.sim_base.specs.Settings
