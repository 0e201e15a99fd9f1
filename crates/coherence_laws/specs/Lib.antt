-- The definitions of what holds of a line in every run: one writer or readers, and one value.

pub mod Part
pub mod Coherence
pub mod Laws
pub mod Holders
pub mod Still
