-- `Canon`: canonical words, piece by piece. `Ends`: where they end. `Powers`: the powers of a word list, and the list of given powers. `Walks`: what a walk knows of the rest. `Sizing`: question 1 of the numbers.
pub mod Canon
pub mod Ends
pub mod Powers
pub mod Walks
pub mod Sums
pub mod Divisions
pub mod Laws
pub mod Firsts
pub mod VariableWords
pub mod Sizing
