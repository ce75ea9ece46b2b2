pub mod Doors
