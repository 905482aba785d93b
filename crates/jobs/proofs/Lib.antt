mod AddLemmas
mod AnswerLemmas
mod CursorLemmas
mod ListLemmas
mod ReadyLemmas
mod RestLemmas
mod ShapeLemmas
pub mod StayLemmas
mod TaskLemmas
