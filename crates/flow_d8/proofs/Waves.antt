-- Modules with lemmas about collecting flats and resolving them by waves.
pub mod WaveLaw
pub mod Listing
pub mod Starting
pub mod Runs
pub mod Marking
pub mod Advancing
pub mod Beginning
