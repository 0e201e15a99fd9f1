-- The definitions of reciprocals and their table.

pub mod Reciprocal
pub mod Table
