pub mod Over
pub mod Waiting
pub mod Numbers
pub mod Queue
pub mod Newest
pub mod Noted
