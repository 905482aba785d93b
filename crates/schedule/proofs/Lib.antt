pub mod FitLemmas
pub mod FormLemmas
pub mod HexLemmas
pub mod LineLemmas
pub mod OrderLemmas
pub mod PlainLemmas
mod PrintedVersions
pub mod ScheduleLaws
pub mod ScheduleLemmas
pub mod SpelledLemmas
pub mod Spelling
pub mod UniqueLemmas
