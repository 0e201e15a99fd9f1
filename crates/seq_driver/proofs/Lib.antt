pub mod ChoiceLemmas
pub mod DrawLemmas
pub mod ReplayLemmas
mod LoneLemmas
