-- The definitions of the generated workloads, as listings.

pub mod Assembly
pub mod Instructions
pub mod Listing
pub mod Sound
pub mod Workload
pub use Rattle.rv_decode.specs.Table
pub use Rattle.elf_image.specs.Image
pub use Rattle.elf_image.specs.File
