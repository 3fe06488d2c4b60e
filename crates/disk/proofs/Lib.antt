pub mod FileReplay
pub mod FileRuns
pub mod Replay
pub mod Sectors
pub mod ToldHonest
