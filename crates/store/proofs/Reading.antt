pub mod AskedTrees
pub mod WaterHeld
pub mod QueryingHeld
pub mod Tested
