use Rattle.std.proofs.Common.{◌≡◌, take}
use Rattle.kmod_index.specs.ForProofs.{pointed}
use Rattle.kmod_index.specs.Tries.{in_order}
use Rattle.kmod_index.proofs.trie_order.in_order.Given as goal

abbrev pub invariant-loop-line : goal.invariant-loop-line
invariant-loop-line l = pointed l.ordered.items ≡ in_order (pointed (take l.line-index l.lines))
