pub mod Entries
pub mod Firsts
pub mod Flags
pub mod Orders
pub mod Rows
pub mod Sorting
pub mod Waiters
