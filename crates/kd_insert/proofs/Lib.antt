pub mod Tracking
pub mod Inserts
pub mod Halves
pub mod Monomials
pub mod Ratios
pub mod Kept
