pub mod Answers
pub mod Items
pub mod Moments
pub mod Outputs
pub mod Promises
pub mod Served
pub mod Session
pub mod Writing
