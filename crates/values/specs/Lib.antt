pub mod Refusals
pub mod Legal
pub mod Writing
pub mod Any
