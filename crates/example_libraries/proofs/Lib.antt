pub mod Walks
unfoldable pub use Walks.*
pub mod Counts
