-- `Orders`: ratios are totally ordered, and labels agree. `Places`: lists of places and of entries. `Prunes`: every search is safe.
-- `Finds`: the one search. `Asks`: questions 6 and 7. `Lists`: the calls of a list. `Keeps`: every call keeps a state valid.
-- `Answering`: what a query answers. `After`: what a call leaves. `Ranging`: queries as ranges of ratios. `Theorems`: the claims of specs/Claims.antt. `Demand`: demand 3.
pub mod Orders
pub mod Places
pub mod Prunes
pub mod Finds
pub mod Asks
pub mod Lists
pub mod Labels
pub mod Keeps
pub mod Answering
pub mod After
pub mod Ranging
pub mod Paths
pub mod Theorems
pub mod Demand
