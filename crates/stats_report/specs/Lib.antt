-- The definitions of the report's text.

pub mod Text
pub mod Report
pub use Rattle.node_machine.specs.Machine
pub use Rattle.node_machine.specs.Core
pub use Rattle.node_machine.specs.Reading
pub use Rattle.event_journal.specs.State
