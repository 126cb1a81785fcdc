use Rattle.std.proofs.Common.{◌≡◌, ◌+◌, ◌++◌, drop, length}
use Rattle.std.specs.List.{fold}
use Rattle.alias_match.specs.Marks.{with_digit}
use Rattle.alias_match.specs.Pattern.{literal_beginning}
use Rattle.alias_match.proofs.runs.leading_bytes.Given as goal

abbrev pub invariant-items : goal.invariant-items
invariant-items l =
    record {
      counted : l.count + length (literal_beginning l.rest) ≡ length (literal_beginning l.fn.items);
      marked : fold with_digit l.mark (literal_beginning l.rest) ≡ fold with_digit 0 (l.fn.front ++ literal_beginning l.fn.items);
      left : l.rest ≡ drop l.count l.fn.items;
      few : l.count + length l.rest ≡ length l.fn.items;
    }

abbrev pub decreases-items : goal.decreases-items
decreases-items l = length l.rest
