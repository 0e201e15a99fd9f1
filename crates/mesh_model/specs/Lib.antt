-- The definitions of places, hops, delays and costs.

pub mod Mesh
pub mod Cost
pub use Rattle.sim_base.specs.Numbering
pub use Rattle.sim_base.specs.Settings
