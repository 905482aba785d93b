mod TakingOver
mod Unasked
