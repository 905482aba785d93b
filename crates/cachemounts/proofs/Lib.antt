pub mod AddingLemmas
pub mod FolderLemmas
pub mod MountLemmas
pub mod OneLemmas
pub mod ViewLemmas
