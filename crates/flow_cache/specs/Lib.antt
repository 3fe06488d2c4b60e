pub mod LevelRanges
pub mod FlowCaches
pub mod Slots
