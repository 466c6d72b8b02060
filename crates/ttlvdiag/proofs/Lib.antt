pub mod Cutting
pub mod Shown
