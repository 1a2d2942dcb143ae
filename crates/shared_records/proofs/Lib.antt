pub mod Decodes
unfoldable pub use Decodes.*
