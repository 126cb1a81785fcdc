pub mod BegunLemmas
