pub mod callers
unfoldable pub use callers.*
