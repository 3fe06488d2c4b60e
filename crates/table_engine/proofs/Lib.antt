pub mod FreshTiles
pub mod TableCalls
