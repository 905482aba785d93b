pub mod HeldAsks
pub mod Shown
