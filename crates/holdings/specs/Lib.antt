pub mod Tickets
pub mod Leases
pub mod Endings
pub mod Lives
pub mod Places
