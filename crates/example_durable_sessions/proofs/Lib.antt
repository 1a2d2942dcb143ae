pub mod Storing
unfoldable pub use Storing.*
