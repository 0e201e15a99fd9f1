pub mod Coded
pub mod Assembled
pub mod Sound
