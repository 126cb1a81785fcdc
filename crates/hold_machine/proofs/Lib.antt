mod KernelLemmas
mod LockLemmas
mod TableLemmas
mod RunLemmas
