pub mod Putting
pub mod Judging
mod Textual
mod Extending
mod Making
