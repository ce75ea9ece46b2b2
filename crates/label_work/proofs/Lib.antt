-- `Replies`: what the doors answer. `Kept`: they keep a map sound.
pub mod Replies
pub mod Kept
