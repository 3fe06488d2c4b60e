pub mod Over
pub mod Found
