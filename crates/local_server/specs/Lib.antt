-- The definition of what a local server makes of a message.

pub mod Local
pub use Rattle.wire_msg.specs.Message
