pub mod TableState
