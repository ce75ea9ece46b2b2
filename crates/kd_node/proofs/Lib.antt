pub mod Choosing
pub mod Growing
