pub mod BoxRows
pub mod Carrying
pub mod History
pub mod Lacking
pub mod ListedOnce
pub mod PlainStores
pub mod Wrapping
