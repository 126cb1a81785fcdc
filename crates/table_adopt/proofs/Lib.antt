pub mod KernelLemmas
pub mod SlotLemmas
pub mod StepLemmas
