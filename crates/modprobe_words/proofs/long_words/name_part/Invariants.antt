use Rattle.std.proofs.Common.{◌≡◌, ◌++◌, take, drop}
use Rattle.modprobe_words.specs.Words.{name_part}
use Rattle.modprobe_words.proofs.long_words.name_part.Given as goal

abbrev pub invariant-loop-at : goal.invariant-loop-at
invariant-loop-at l = name_part l.text ≡ take l.at l.text ++ name_part (drop l.at l.text)
