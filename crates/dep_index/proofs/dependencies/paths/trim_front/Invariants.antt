use Rattle.std.proofs.Common.{◌≡◌, length}
use Rattle.dep_index.specs.Dependencies.{skip_blanks}
use Rattle.dep_index.proofs.dependencies.paths.trim_front.Given as goal

-- only blanks were left behind
abbrev pub invariant-loop-byte : goal.invariant-loop-byte
invariant-loop-byte l = skip_blanks l.rest ≡ skip_blanks l.text

abbrev pub decreases-loop-byte : goal.decreases-loop-byte
decreases-loop-byte l = length l.rest
