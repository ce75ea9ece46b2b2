pub mod Packed
pub mod Visited
pub mod Counted
