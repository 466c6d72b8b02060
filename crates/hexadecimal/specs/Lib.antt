pub mod Digits
pub mod Pairs
pub mod Layers
pub mod Laws
