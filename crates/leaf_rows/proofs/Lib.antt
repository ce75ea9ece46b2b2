-- `Bounding`: entries within bounds. `Testing`: what each test decides.
pub mod Bounding
pub mod Testing
