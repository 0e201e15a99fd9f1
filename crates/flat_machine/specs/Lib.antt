-- The definitions of the flat machine: memory, threads, actions and runs.

pub mod Memory
pub mod State
pub mod Reservation
pub mod Action
pub mod Serving
pub mod Run
pub mod Acts
pub mod Gives
pub mod Inner
pub use Rattle.elf_image.specs.Image
pub use Rattle.elf_image.specs.Layout
pub use Rattle.rv_hart.specs.Step
pub use Rattle.serving.specs.ControlData
pub use Rattle.serving.specs.Serving as ServingRules
