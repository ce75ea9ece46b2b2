pub mod Ranging
pub mod Standing
pub mod Calling
