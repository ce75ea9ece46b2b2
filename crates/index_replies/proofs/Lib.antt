pub mod Inserts
pub mod Calling
pub mod Queries
