-- Modules with lemmas about the square around a tile.
pub mod PaddedPlaces
pub mod FirstEnds
pub mod Prepared
pub mod Closing
