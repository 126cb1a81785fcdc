use Rattle.std.proofs.Common.{◌≡◌, take}
use Rattle.answer_reasons.specs.NearNames.{letters_of}
use Rattle.answer_reasons.proofs.near_names.letters_of.Given as goal

abbrev pub invariant-loop-byte : goal.invariant-loop-byte
invariant-loop-byte l = l.letters.items ≡ letters_of (take l.byte-index l.name)
