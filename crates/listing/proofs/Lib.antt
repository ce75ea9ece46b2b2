pub mod Monomials
pub mod Rows
pub mod Wholes
pub mod Copying
