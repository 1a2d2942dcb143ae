pub mod states
unfoldable pub use states.*
