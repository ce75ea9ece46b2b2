pub mod Ending
pub mod Indexing
pub mod Lending
