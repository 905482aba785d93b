mod ShownLemmas
mod SaysLemmas
pub mod RuleLemmas
pub mod PowerLemmas
pub mod CrashLemmas
