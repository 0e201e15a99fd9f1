-- The definitions of how calls, exits and traps are served.

pub mod ControlData
pub mod Join
pub mod Wake
pub mod Serving
pub mod Laws
pub use Rattle.elf_image.specs.Image
pub use Rattle.elf_image.specs.Layout
