pub mod Asks
pub mod RowProps
pub mod Rows
pub mod Tickets
