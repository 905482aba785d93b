pub mod CheckLemmas
pub mod GraphLemmas
pub mod LoadLemmas
pub mod SharedLemmas
pub mod ZipLemmas
