pub mod NewestLemmas
pub mod WaitingWords
pub mod PassedWords
pub mod NotedWords
pub mod NewestWords
pub mod OverWords
