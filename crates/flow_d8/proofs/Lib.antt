mod Prelude
pub mod Steps
pub mod Paths
pub mod Mosaics
pub mod Samples
pub mod Sayings
pub mod Waves
pub mod Padded
