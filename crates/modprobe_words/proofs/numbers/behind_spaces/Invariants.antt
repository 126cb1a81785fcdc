use Rattle.std.proofs.Common.{◌≡◌, length}
use Rattle.modprobe_words.specs.Numbers.{behind_spaces}
use Rattle.modprobe_words.proofs.numbers.behind_spaces.Given as goal

abbrev pub invariant-loop-byte : goal.invariant-loop-byte
invariant-loop-byte l = behind_spaces l.rest ≡ behind_spaces l.text

abbrev pub decreases-loop-byte : goal.decreases-loop-byte
decreases-loop-byte l = length l.rest
