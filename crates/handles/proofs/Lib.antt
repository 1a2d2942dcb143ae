-- Lemmas of maps.
pub mod Maps
pub mod Told
pub mod Visits
