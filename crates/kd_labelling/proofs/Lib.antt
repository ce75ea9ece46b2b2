pub mod Settling
pub mod Parts
