pub mod Idle
pub mod Requests
pub mod Shown
