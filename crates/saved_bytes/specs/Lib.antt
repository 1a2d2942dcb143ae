pub mod Files
pub mod Forms
pub mod Images
pub mod FileNames
pub mod Reading
