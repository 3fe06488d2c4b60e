mod LittleBytes
mod LabelledAt
mod Fitting
mod Mended
pub mod KeptStill
