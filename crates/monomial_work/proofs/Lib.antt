-- `Laws`: what the answers need. `Questions`: one law for each way out of a door.
pub mod Laws
pub mod Questions
