pub mod Scopes
pub mod Signals
pub mod Texts
