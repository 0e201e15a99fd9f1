-- The definitions of what instructions do.

pub use Rattle.rv_decode.specs.Valid
pub mod Registers
pub mod Arithmetic
pub mod Access
pub mod Effect
pub mod Class
