pub mod Answering
pub mod Beginning
pub mod Keeping
pub mod Relocating
pub mod Shared
