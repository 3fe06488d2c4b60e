pub mod LevelRanges
