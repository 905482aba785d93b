pub mod BatchLemmas
pub mod SetupLemmas
pub mod ViewLemmas
