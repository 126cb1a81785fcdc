use Rattle.std.proofs.Common.{◌≡◌, filter}
use Rattle.kmod_index.specs.Needs.{is_needing}
use Rattle.kmod_index.proofs.index.Index.needing.Given as goal

abbrev pub invariant-lines : goal.invariant-lines
invariant-lines l = l.found.items ≡ filter (is_needing l.name) l.yielded
