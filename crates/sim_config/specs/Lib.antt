pub mod Request
pub mod Words
pub mod SettingsFile
pub mod Inner
pub use Rattle.sim_base.specs.Settings
pub use Rattle.toml.specs.Data
pub use Rattle.toml.specs.Parse
