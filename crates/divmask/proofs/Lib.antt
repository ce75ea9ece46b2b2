-- `Places`: which bits a variable has. `Digits`: the bits of a number. `Parts`: the bits that a power sets. `Masks`: the laws of masks.
-- `Vectors`: those of short exponent vectors. `Sums`: both side by side. `Growth`: the laws of maxima. `Cases`: document 01's bench cases.
pub mod Places
pub mod Digits
pub mod Parts
pub mod Masks
pub mod Vectors
pub mod Sums
pub mod Growth
pub mod Cases
