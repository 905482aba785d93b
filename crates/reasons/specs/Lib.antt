pub mod Answers
pub mod NewCalls
pub mod Solved
