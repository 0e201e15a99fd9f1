-- The definitions of a tile's core and the bytes of a write call.

pub mod Gathering
pub mod Core
pub mod Plan
pub mod Inner
pub use Rattle.rv_hart.specs.Step
pub use Rattle.rv_hart.specs.Start
pub use Rattle.rv_hart.specs.Reservation
pub use Rattle.elf_image.specs.Layout
