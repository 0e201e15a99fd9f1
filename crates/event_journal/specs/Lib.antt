-- The definitions of machines, events, states and runs.
pub mod Blocks
pub mod Choice
pub mod Event
pub mod Laws
pub mod Rules
pub mod Run
pub mod State
