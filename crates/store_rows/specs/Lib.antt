pub mod Packed
pub mod Past
