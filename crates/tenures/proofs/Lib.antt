mod ListLemmas
mod KeptLemmas
mod MomentLemmas
mod RemovalLemmas
mod StepLemmas
mod ReplyLemmas
mod AskedLemmas
mod EndingLemmas
