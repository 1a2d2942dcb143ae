pub mod calls
pub mod images
pub mod numerals
unfoldable pub use calls.*
