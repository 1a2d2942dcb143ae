pub mod Keeping
unfoldable pub use Keeping.*
pub mod Blocks
unfoldable pub use Blocks.*
pub mod Among
unfoldable pub use Among.*
