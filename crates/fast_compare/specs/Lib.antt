pub mod Labels
pub mod Map
pub mod Layout
pub mod Halving
