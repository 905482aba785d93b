pub mod TakeOver
