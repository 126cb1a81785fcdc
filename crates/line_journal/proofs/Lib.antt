pub mod BehindLemmas
mod ByteLemmas
pub mod DamageLemmas
pub mod FollowLemmas
mod GroupLemmas
mod KillLemmas
mod LineLemmas
pub mod Moments
mod NewlineLemmas
mod PutLemmas
mod ReadingLemmas
mod RepairLemmas
