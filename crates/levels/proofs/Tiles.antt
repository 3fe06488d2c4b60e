pub mod Whole
pub mod TileOutlets
pub mod TileLevels
pub mod Summed
pub mod Numbered
pub mod RimNodes
pub mod Agreeing
pub mod RimLevels
