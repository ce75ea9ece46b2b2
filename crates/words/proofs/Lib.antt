-- `Lists`: a list by its places. `Laws`: the list-of-words view of a slice. `Fields`: the parts of a word, read back from the word built of them.
-- `Tables`: parts and tables of words, and what a writer leaves of them. `Joined`: pieces and rows one behind the other.
-- `Pasting`: what a paste leaves in front of it and behind it. `Drafts`: pieces written one after the other.
-- `Answers`: what the answers of checks decide.
pub mod Lists
pub mod Laws
pub mod Fields
pub mod Tables
pub mod Copies
pub mod Joined
pub mod Pasting
pub mod Drafts
pub mod Answers
