pub mod Finding
pub mod HeldTiles
pub mod Holding
pub mod InMemory
pub mod Nearby
pub mod Querying
pub mod QueryingPages
