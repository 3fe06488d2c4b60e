pub mod Labelling
pub mod Blocks
pub mod Spills
pub mod Passing
pub mod Raising
