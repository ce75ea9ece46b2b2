pub mod Splitting
pub mod Cutting
pub mod Opening
