pub mod Answered
pub mod LevelFunctions
pub mod Told
