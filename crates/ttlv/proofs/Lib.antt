pub mod Reading
pub mod Twos
