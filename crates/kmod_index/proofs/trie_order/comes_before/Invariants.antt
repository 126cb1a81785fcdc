use Rattle.std.proofs.Common.{◌≡◌, length, true}
use Rattle.kmod_index.specs.Tries.{comes_before}
use Rattle.kmod_index.proofs.trie_order.comes_before.Given as goal

-- the keys are the same so far
abbrev pub invariant-bytes : goal.invariant-bytes
invariant-bytes l = comes_before l.is_plain l.one l.other ≡ comes_before true l.first l.second

abbrev pub decreases-bytes : goal.decreases-bytes
decreases-bytes l = length l.other
