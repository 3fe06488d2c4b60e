pub mod Keeping
pub mod Labelled
pub mod SteppedTiles
pub mod SteppedTrees
pub mod StagingSteps
