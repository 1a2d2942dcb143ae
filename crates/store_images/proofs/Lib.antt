pub mod walks
unfoldable pub use walks.*
