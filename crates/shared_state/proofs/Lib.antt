pub mod Beginning
pub mod Keeping
unfoldable pub use Beginning.*
unfoldable pub use Keeping.*
