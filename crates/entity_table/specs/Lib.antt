pub mod Components
pub mod Keeping
pub mod Parts
pub mod Sweeping
pub mod Tables
pub mod Texts
pub mod Walking
