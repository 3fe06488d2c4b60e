pub mod Words
pub mod BytesLemmas
pub mod NameLemmas
