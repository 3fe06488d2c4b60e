pub mod FlowsKept
pub mod CacheStill
pub mod Listed
pub mod FarTiles
