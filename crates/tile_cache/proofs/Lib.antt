pub mod CacheLemmas
pub mod ChangeLemmas
pub mod CopyLemmas
pub mod KeptLemmas
pub mod SetLemmas
