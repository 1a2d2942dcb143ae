pub mod Data
pub mod Entries
pub mod Entry
pub mod Latest
