-- The definitions of the whole machine: nodes, messages that wait, enabled events, and how a run ends.

pub mod Pending
pub mod Mailbox
pub mod Machine
pub mod Commits
pub mod Reading
pub mod End
pub mod Core
pub mod Alone
pub mod Shown
pub mod Trapping
pub mod Inner
pub use Rattle.tile_node.specs.Tile
pub use Rattle.tile_node.specs.Step
pub use Rattle.tile_node.specs.Deliver
pub use Rattle.control_server.specs.Control
pub use Rattle.local_server.specs.Local
pub use Rattle.event_journal.specs.Rules
pub use Rattle.event_journal.specs.State
pub use Rattle.event_journal.specs.Run
pub use Rattle.event_journal.specs.Choice
