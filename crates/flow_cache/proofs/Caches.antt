pub mod FlowCaches
pub mod KnownCount
pub mod Blocks
pub mod Evicted
