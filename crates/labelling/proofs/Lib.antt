pub mod Squares
pub mod Parts
pub mod InMosaic
pub mod Passages
pub mod Heights
