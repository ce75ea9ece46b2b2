-- `Ratios`, `Marking`: what the checks decide. `Merging`: a ratio compared while it is merged.
pub mod Ratios
pub mod Marking
pub mod Merging
