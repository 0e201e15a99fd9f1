-- The definitions of a line at its home: its states, its table of rows, and the slice of a tile.

pub mod Line
pub mod Directory
pub mod Laws
pub mod Inner
pub use Rattle.node_set.specs.NodeSet
pub use Rattle.elf_image.specs.Layout
pub use Rattle.mesh_model.specs.Mesh
pub use Rattle.mesh_model.specs.Cost
pub use Rattle.wire_msg.specs.Message
