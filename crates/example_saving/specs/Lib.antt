pub mod Logins
pub mod Moving
