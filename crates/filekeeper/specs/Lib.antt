pub mod Calls
pub mod Disks
pub mod Framing
pub mod RecordFiles
pub mod Settled
pub mod Keepers
