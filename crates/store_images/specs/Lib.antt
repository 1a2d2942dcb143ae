pub mod Adopting
pub mod Images
pub mod Saving
