pub mod SlotRefs
pub mod Gathered
