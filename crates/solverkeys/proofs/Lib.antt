pub mod KeyLemmas
pub mod KeyedLemmas
pub mod ShapeLaws
