pub mod Disturbance
pub mod Numbered
pub mod Places
pub mod Replies
pub mod Session
pub mod SoundSession
