pub mod Followed
pub mod Around
