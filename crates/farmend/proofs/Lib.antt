pub mod AnswerLemmas
mod NewsLemmas
mod ReceiptLemmas
pub mod SavedLemmas
