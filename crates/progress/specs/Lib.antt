pub mod Progress
pub mod Fair
