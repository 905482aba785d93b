pub mod TextLemmas
pub mod Fields
pub mod SlotLaws
