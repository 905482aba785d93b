pub mod FileLaws
pub mod FileLoop
pub mod FolderLaws
pub mod Places
pub mod Plans
pub mod Faults
pub mod Maps
pub mod Rising
