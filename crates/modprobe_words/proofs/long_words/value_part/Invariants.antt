use Rattle.std.proofs.Common.{◌≡◌, length}
use Rattle.modprobe_words.specs.Words.{value_part}
use Rattle.modprobe_words.proofs.long_words.value_part.Given as goal

abbrev pub invariant-loop-byte : goal.invariant-loop-byte
invariant-loop-byte l = value_part l.rest ≡ value_part l.text

abbrev pub decreases-loop-byte : goal.decreases-loop-byte
decreases-loop-byte l = length l.rest
