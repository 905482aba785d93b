pub mod Orders
pub mod Written
