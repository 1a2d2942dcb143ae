pub mod Logins
pub mod Moving
pub mod Reloading
unfoldable pub use Logins.*
unfoldable pub use Moving.*
unfoldable pub use Reloading.*
