pub mod Parting
pub mod Writing
