use Rattle.std.proofs.Common.{◌≡◌, length}
use Rattle.alias_match.specs.ForProofs.{AreNumbers}
use Rattle.alias_match.proofs.front.NumberedText.of.Given as goal

abbrev pub invariant-loop-count : goal.invariant-loop-count
invariant-loop-count l = record { size : length l.numbers ≡ 9; known : AreNumbers l.numbers l.count l.bytes }
