pub mod Packing
pub mod Counting
pub mod Scanning
