-- The theory, over any total order:
-- `Counts`, `Ranks`: counting, and the sorted order by rank. `Neighbours`: the values next to a value, found by rank.
-- `Rising`: labels rise with values, kept by an insert and by a rebuild, which leaves room everywhere.
pub mod Counts
pub mod Ranks
pub mod Neighbours
pub mod Rising
-- The map and its image:
-- `Maps`: the map stays valid, and what its answers mean. `Images`, `Exact`: the checks pass exactly for a valid map's image.
-- `Kept`: calls keep a map sound, and a query's place compares as its value.
pub mod Maps
pub mod Images
pub mod Exact
pub mod Kept
-- The code's steps:
-- `Scans`, `Reading`: reading rows, searching. `Giving`: the place of a value and the labels next to it. `Opening`: an empty map.
pub mod Scans
pub mod Reading
pub mod Giving
pub mod Opening
