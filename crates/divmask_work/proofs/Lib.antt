-- `Served`: what the doors' proofs share.
pub mod Served
