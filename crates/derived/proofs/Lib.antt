pub mod Commits
pub mod KeptTiles
pub mod RootStored
pub mod Settled
