pub mod Refusals
pub mod Types
pub mod Machine
