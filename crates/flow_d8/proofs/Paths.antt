-- Modules with lemmas about flow paths.
pub mod OnePath
pub mod Crossing
pub mod Tracing
pub mod Chains
