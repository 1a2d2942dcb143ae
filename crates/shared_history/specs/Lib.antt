pub mod Bases
pub mod Counts
pub mod History
pub mod Logs
pub mod Replies
pub mod Standing
