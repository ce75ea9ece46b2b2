-- `Rooms`: where a node's row lies. `Uppers`: bounds with one word changed, and changed back. `Walks`: one law for each return of the walk.
pub mod Rooms
pub mod Uppers
pub mod Walks
