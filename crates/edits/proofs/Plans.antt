pub mod Once
pub mod Setting
pub mod VoidsPut
