-- `Decoding`: what passes the checks is the image of a valid state. `Checking`: such an image passes. `Exact`: both together.
-- `Steps`: one law for each return of the checks.
pub mod Decoding
pub mod Checking
pub mod Exact
pub mod Steps
