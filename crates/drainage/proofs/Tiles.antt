pub mod GroundAtHand
pub mod PaddedLevels
pub mod WholeTiles
