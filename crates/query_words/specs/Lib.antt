pub mod Asked
pub mod Rooted
