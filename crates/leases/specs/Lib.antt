pub mod Leases
pub mod Lowest
pub mod Table
pub mod Changes
