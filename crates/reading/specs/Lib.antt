pub mod Refusals
pub mod Parts
pub mod Stages
pub mod Reads
pub mod Trips
