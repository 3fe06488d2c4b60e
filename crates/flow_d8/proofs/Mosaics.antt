-- A mosaic as a terrain, and its filled levels: the modules with these lemmas.
pub mod PointFlows
pub mod FilledOf
pub mod FullTerrain
pub mod SharedTiles
pub mod LevelsOf
pub mod Ordered
