pub mod records
unfoldable pub use records.*
