pub mod Bytes
pub mod HgtLaws
pub mod Names
pub mod NameLaws
