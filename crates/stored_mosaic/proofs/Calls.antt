pub mod Committed
pub mod Ended
pub mod Made
pub mod Opened
pub mod States
pub mod Underway
