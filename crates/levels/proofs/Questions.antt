pub mod Questioned
pub mod Asked
pub mod Filled
