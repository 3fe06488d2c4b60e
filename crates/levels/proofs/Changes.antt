pub mod Unreached
pub mod Invalidated
pub mod Reached
pub mod Noted
pub mod Refreshed
pub mod BelowSummaries
pub mod SparedLevels
pub mod Unchanged
