pub mod Answers
pub mod Batches
pub mod Ends
pub mod Faults
pub mod Leases
pub mod Places
pub mod Setups
pub mod Works
