pub mod Cells
pub mod Files
pub mod Items
pub mod Taken
pub mod Written
