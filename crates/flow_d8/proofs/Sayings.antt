-- Modules with lemmas about what flows say.
pub mod Said
pub mod Draining
pub mod Told
