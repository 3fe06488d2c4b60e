pub mod Counting
pub mod ListingPages
pub mod EntryTiles
pub mod Indexed
pub mod ReadTiles
pub mod Adding
pub mod CornerChanges
pub mod Due
