pub mod Keeping
pub mod Seen
pub mod Tallies
pub mod Waits
