pub mod EndLemmas
pub mod HolderLemmas
