-- The definitions of epochs, their members and limits, and of probes.

pub mod Members
pub mod Epoch
pub mod Probe
pub mod Inner
pub use Rattle.sim_base.specs.Saturated
pub use Rattle.rand_pcg.specs.Lcg
pub use Rattle.rand_pcg.specs.Pcg
