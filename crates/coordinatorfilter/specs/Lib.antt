pub mod Carried
pub mod Shown
pub mod Written
pub mod Rules
