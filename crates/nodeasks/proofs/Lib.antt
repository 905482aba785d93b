pub mod AskLemmas
pub mod CountLemmas
pub mod LostLemmas
pub mod RowLemmas
pub mod ScanLemmas
pub mod TableLemmas
pub mod TicketLemmas
