-- Modules with lemmas about samples, their points and their numbers.
pub mod Numbers
pub mod Inside
pub mod Beside
pub mod TilePlaces
pub mod TwinFlows
pub mod DeepSteps
pub mod Slots
pub mod AtHand
pub mod GridFacts
