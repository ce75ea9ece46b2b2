-- `Storing`: a row stored. `Answers`: what a call answers. `Respacing`: rebuild.
pub mod Storing
pub mod Answers
pub mod Respacing
