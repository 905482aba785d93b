pub mod LineLemmas
pub mod LineWords
pub mod Ordered
pub mod Pushing
pub mod Again
pub mod Searching
