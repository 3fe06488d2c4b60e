pub mod Lines
pub mod Marks
pub mod Numbers
pub mod Told
pub mod UpstreamCounts
