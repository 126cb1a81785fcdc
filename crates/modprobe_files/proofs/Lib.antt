pub mod ChosenLemmas
pub mod FileLemmas
pub mod HiddenLemmas
pub mod RootLemmas
