pub mod Decoding
pub mod Kinds
pub mod Letters
pub mod Lists
