pub mod Mask
pub mod Tracker
