use Rattle.std.proofs.Common.{◌≡◌, ◌++◌, length}
use Rattle.kmod_index.specs.Tries.{pattern_of_key}
use Rattle.kmod_index.proofs.aliases.escaped.Given as goal

-- what was read, and then the rest, is the pattern of the whole key
abbrev pub invariant-loop-byte : goal.invariant-loop-byte
invariant-loop-byte l = l.pattern.items ++ pattern_of_key l.rest ≡ pattern_of_key l.key

abbrev pub decreases-loop-byte : goal.decreases-loop-byte
decreases-loop-byte l = length l.rest
