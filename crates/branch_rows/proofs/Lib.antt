-- `Limiting`: the bounds of both sides. `Testing`: what each test decides.
pub mod Limiting
pub mod Testing
