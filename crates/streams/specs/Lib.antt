pub mod Refusals
pub mod Sources
pub mod Memories
pub mod Sinks
