use Rattle.std.proofs.Common.{◌≡◌, drop}
use Rattle.std.specs.List.{fold}
use Rattle.alias_match.specs.Marks.{with_digit}
use Rattle.alias_match.proofs.hash_table.mark.Given as goal

abbrev pub invariant-loop-byte : goal.invariant-loop-byte
invariant-loop-byte l = fold with_digit l.number (drop l.byte-index l.last) ≡ fold with_digit 0 l.last
