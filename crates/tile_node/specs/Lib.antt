-- The definitions of a tile: its step, its deliveries, and what shows at each line.

pub mod Tile
pub mod Step
pub mod Deliver
pub mod OneLine
pub mod OneLineLaws
pub mod Answers
pub mod AtOnce
pub mod Inner
pub use Rattle.tile_core.specs.Core
pub use Rattle.tile_core.specs.Plan
pub use Rattle.tile_cache.specs.Cache
pub use Rattle.dir_slice.specs.Directory
pub use Rattle.clock_policy.specs.Probe
pub use Rattle.elf_image.specs.Layout
pub use Rattle.wire_msg.specs.Message
