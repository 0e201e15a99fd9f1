mod Once
pub mod Rows
