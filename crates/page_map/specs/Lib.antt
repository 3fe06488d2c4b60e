pub mod PageMaps
pub mod FreePages
pub mod Locations
pub mod Planes
pub mod PlaneEntries
pub mod TileEntries
pub mod TileLocations
pub mod Upgraded
