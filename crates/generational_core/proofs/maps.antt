-- Finite maps under names and under keys.
pub mod Maps
