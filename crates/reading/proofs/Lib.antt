pub mod Parted
pub mod Passing
pub mod Long
pub mod Staged
pub mod Back
pub mod Eight
pub mod Tripping
