pub mod ImageSlots
pub mod Packing
pub mod Removal
pub mod SlotRows
pub mod SlotsState
