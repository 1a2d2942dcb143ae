pub mod Bounds
pub mod Homes
pub mod Keeping
pub mod Sessions
pub mod Tables
pub mod Texts
