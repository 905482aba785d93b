pub mod Answers
pub mod Drawings
pub mod Failures
pub mod Records
pub mod Replays
pub mod Wants
