pub mod Common
pub mod Entries
pub mod Playing
pub mod Replying
