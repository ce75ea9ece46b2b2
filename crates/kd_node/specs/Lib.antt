pub mod Branch
pub mod Path
