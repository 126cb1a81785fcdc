mod FeedLemmas
mod InputLemmas
mod LockLemmas
mod NoticeLemmas
mod SetupLemmas
mod UseLemmas
