pub mod Answers
pub mod Choices
pub mod Listings
pub mod Merging
pub mod Rows
pub mod Texts
pub mod Times
pub mod Views
