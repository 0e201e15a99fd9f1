-- The definitions of the run that a seed draws, and of the run that a journal tells.

pub mod Picked
pub mod Driven
pub mod Replayed
pub mod Inner
pub use Rattle.node_machine.specs.Machine
pub use Rattle.node_machine.specs.Core
pub use Rattle.node_machine.specs.End
pub use Rattle.event_journal.specs.Run
pub use Rattle.event_journal.specs.State
pub use Rattle.event_journal.specs.Choice
