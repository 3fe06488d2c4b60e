mod Prelude
pub mod Calls
pub mod Edits
pub mod Reading
pub mod KeptPlanes
