pub mod Holders
pub mod LoadingTiles
pub mod Growing
pub mod Caching
pub mod FewTiles
