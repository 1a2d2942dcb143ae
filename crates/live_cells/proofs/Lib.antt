pub mod Listing
unfoldable pub use Listing.*
