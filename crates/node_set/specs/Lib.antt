-- The definitions of sets of nodes as ascending lists, and their laws.

pub mod NodeSet
pub mod Laws
pub mod Inner
