pub mod Buffers
pub mod Lines
pub mod Served
pub mod Outside
pub mod Says
pub mod Unreads
