pub mod Answered
pub mod Applying
pub mod Chains
mod Decided
pub mod Questions
pub mod Infos
