pub mod Search
pub mod Feeding
pub mod Marks
pub mod Counting
