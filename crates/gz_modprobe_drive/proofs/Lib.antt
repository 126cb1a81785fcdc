pub mod AnswerLemmas
pub mod EndLemmas
pub mod JobLemmas
pub mod LintLemmas
pub mod OutputLemmas
pub mod TreeLemmas
