-- `Checks`: what the answers of the checks come to.
pub mod Checks
