pub mod Stamping
unfoldable pub use Stamping.*
