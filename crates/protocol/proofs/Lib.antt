pub mod Base
mod Lines
mod Steps
mod Invariant
mod Acts
mod Worlds
mod Safety
mod Bulk
mod Meanings
pub mod Leases
mod Trying
pub mod Following
mod Calls
mod Others
mod Saying
pub mod Moving
mod Commits
pub mod Raiding
mod Using
mod Noting
mod Parking
pub mod Wanting
mod Denials
mod Asked
pub mod Saving
mod Changing
mod Recalling
mod Deciding
pub mod Owning
mod Fitting
mod Ordering
mod Replying
mod LastLives
pub mod Schedules
mod RaidedFarms
mod Touching
mod Failing
mod Keeping
mod Chronicles
mod Losing
mod Ended
mod Processing
mod Witnessing
mod RaidedProcesses
pub mod Answering
mod Asking
pub mod Lawfulness
pub mod LawfulFarms
pub mod Refusals
