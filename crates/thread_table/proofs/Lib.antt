pub mod LiveCount
