-- The definitions of a hart's next step: calls, reservations and rights.

pub mod Start
pub mod Reservation
pub mod Call
pub mod Step
pub mod Inner
pub use Rattle.elf_image.specs.Image
pub use Rattle.elf_image.specs.Layout
pub use Rattle.rv_exec.specs.Registers
pub use Rattle.rv_exec.specs.Access
