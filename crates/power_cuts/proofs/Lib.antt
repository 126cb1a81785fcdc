mod DiskLemmas
mod RunLemmas
