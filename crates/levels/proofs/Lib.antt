mod Prelude
pub mod Caches
pub mod Questions
pub mod Changes
pub mod Flows
pub mod Tiles
