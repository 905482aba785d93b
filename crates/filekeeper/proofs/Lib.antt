mod FramingLemmas
pub mod DiskLemmas
mod CrashLemmas
mod TakingLemmas
mod AddingLemmas
mod ReplacingLemmas
mod SyncLemmas
mod LoadLemmas
mod StandingLemmas
pub mod KeptLemmas
pub mod LeftLemmas
