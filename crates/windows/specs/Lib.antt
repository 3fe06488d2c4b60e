pub mod Lines
pub mod Results
pub mod Telling
pub mod Windows
