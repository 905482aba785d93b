mod GainLemmas
mod CarriedLemmas
mod KeepingLemmas
mod StartLemmas
mod SaysLemmas
pub mod RuleLemmas
