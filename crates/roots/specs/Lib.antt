pub mod Found
pub mod Opening
pub mod RootTests
pub mod Roots
pub mod Slots
pub mod Shared
