pub mod Spelled
pub mod Layered
