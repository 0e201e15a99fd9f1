-- The definitions of what the control server keeps, takes up and sends.

pub mod Control
pub mod Serve
pub mod Deliver
pub mod Laws
pub mod Inner
