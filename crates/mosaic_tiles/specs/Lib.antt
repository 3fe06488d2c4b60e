pub mod Endings
pub mod Layers
pub mod Program
pub mod ReadSessions
pub mod Reading
