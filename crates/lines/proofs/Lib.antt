pub mod AheadLemmas
pub mod GrammarLaws
pub mod KeywordLemmas
pub mod NumberLemmas
pub mod RequestLemmas
pub mod WordLemmas
