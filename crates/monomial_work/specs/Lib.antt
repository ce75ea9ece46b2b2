pub mod Served
pub mod Steps
