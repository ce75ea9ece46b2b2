pub mod Posing
pub mod Limiting
