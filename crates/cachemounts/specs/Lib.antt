pub mod Adding
pub mod CacheFolders
pub mod CacheViews
pub mod CacheWants
pub mod Checked
