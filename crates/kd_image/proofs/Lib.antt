-- `Standing`: a tree as its rows and entries. `Becoming`: a tree that became another. `Reading`: what is read of the entries.
pub mod Standing
pub mod Becoming
pub mod Reading
