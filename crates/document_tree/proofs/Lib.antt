pub mod Keeping
pub mod Planning
unfoldable pub use Keeping.*
unfoldable pub use Planning.*
pub mod Counting
pub mod Gathering
pub mod Flagging
