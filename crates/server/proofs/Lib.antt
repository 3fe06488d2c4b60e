pub mod FileRuns
pub mod Longer
pub mod ProgramLemmas
pub mod Replies
pub mod CommandLineLemmas
