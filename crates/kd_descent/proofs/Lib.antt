pub mod Grown
pub mod Writing
pub mod Ways
pub mod Going
