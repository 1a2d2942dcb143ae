pub mod Graphs
pub mod Texts
