pub mod Answered
pub mod Block
