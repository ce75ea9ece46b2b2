-- `Small`: how large the number of a refusal is.
pub mod Small
