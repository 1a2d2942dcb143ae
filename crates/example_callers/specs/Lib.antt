pub mod Sessions
pub mod Table
