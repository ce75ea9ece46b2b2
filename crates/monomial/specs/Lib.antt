pub mod Monomial
pub mod Operations
pub mod Walk
pub mod Sizes
