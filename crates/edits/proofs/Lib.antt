mod Prelude
mod Accepted
pub mod AllStale
mod BoxVoids
mod EarlierHeights
pub mod EditStale
pub mod Edited
pub mod EditedHeights
pub mod FreshSinks
mod NewHeights
pub mod NewMosaics
mod PlaceLemmas
pub mod Placing
mod Plans
pub mod PointEditing
mod Repeats
pub mod SinkLists
pub mod StepsWithin
pub mod Untouched
mod WholeTiles
