pub mod RangeLemmas
pub mod ShownLemmas
pub mod StartLemmas
pub mod MailLemmas
pub mod MadeLemmas
pub mod ApplyLemmas
pub mod PendingLemmas
pub mod MailboxLemmas
mod TrappingWords
mod TrappingTiles
mod TrappingServers
pub mod TrappingRuns
pub mod StepsLemmas
pub mod MakeLemmas
mod AloneLemmas
mod AloneRuns
pub mod PinnedLemmas
