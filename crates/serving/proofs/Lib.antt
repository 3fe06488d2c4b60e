pub mod OutputLemmas
pub mod Runs
pub mod SessionLemmas
pub mod Texts
pub mod Turns
mod WriteLemmas
