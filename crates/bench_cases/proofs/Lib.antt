-- `Theorem`: every case of the table holds.
pub mod Theorem
