pub mod Faults
pub mod Locations
pub mod Pinned
