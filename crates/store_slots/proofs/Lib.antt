pub mod states
pub mod loading
pub mod sounding
pub mod bounding
pub mod telling
pub mod saving
unfoldable pub use states.*
