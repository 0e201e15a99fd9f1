pub mod Bounds
pub mod Covering
pub mod Saturation
