pub mod Keeping
unfoldable pub use Keeping.*
pub mod Visiting
unfoldable pub use Visiting.*
pub mod Parting
unfoldable pub use Parting.*
pub mod Rare
unfoldable pub use Rare.*
pub mod Pairs
unfoldable pub use Pairs.*
