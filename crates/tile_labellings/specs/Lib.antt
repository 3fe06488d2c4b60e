pub mod HeldSpills
pub mod Labellings
pub mod Spots
pub mod TileLabellings
pub mod Updating
