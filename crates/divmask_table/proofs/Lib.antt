-- `Tabling`: a table of the bits that small powers set.
pub mod Tabling
