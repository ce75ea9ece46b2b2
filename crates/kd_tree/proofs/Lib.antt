pub mod Leaves
pub mod Visiting
pub mod Rooting
