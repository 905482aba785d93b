pub mod Additions
pub mod Line
pub mod Lines
pub mod Ordered
pub mod Probes
