pub mod Handles
pub mod Maps
pub mod Sites
pub mod Texts
pub mod Visits
