mod Prelude
pub mod Caches
pub mod Changes
