mod AnswerLemmas
mod NewsLemmas
pub mod SolvedLemmas
