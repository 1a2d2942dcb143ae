pub mod machine
pub mod maps
unfoldable pub use machine.*
