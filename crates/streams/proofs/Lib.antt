pub mod Rewrites
pub mod Going
pub mod Growing
mod Fronts
mod Owned
