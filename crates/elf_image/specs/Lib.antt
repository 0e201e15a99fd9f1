-- The definitions of ELF files, images, decoded text, costs, and the address map.

pub mod Costs
pub mod Decoded
pub mod File
pub mod Header
pub mod Image
pub mod Inner
pub mod Layout
pub mod Names
