mod BitLemmas
pub mod PageLemmas
mod ResultLemmas
