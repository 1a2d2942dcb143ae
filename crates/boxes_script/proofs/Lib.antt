pub mod Places
unfoldable pub use Places.*
