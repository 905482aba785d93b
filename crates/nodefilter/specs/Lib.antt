pub mod Asked
pub mod Carried
pub mod States
pub mod Filters
pub mod Starts
pub mod Rules
