pub mod NextNumbers
mod DrawnLemmas
