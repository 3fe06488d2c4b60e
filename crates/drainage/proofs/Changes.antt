pub mod Beyond
pub mod EditedBox
pub mod HeightSet
pub mod OutsideRange
pub mod HeldUnchanged
pub mod Alone
pub mod SinkDownhill
