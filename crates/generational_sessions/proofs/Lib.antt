pub mod Numbering
unfoldable pub use Numbering.*
