pub mod Numbers
pub mod Types
pub mod Utf8
pub mod Kinds
pub mod Examples
