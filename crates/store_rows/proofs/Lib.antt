pub mod Unpacking
unfoldable pub use Unpacking.*
