pub mod Layout
pub mod Shape
pub mod Walk
pub mod Door
pub mod Marks
pub mod Head
pub mod Size
pub mod Rows
