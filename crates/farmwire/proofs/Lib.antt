pub mod PlainLemmas
pub mod Spelling
pub mod SpelledLemmas
pub mod UniqueLemmas
pub mod WantLemmas
pub mod WriteLemmas
pub mod EndLemmas
pub mod SealedLemmas
