use Rattle.std.proofs.Common.{◌≡◌, take}
use Rattle.alias_match.specs.ForProofs.{matches_below}
use Rattle.alias_match.specs.Marks as marks
use Rattle.alias_match.proofs.alias_list.places_by_marks.Given as goal

abbrev pub invariant-loop-count : goal.invariant-loop-count
invariant-loop-count l =
    record {
      places : l.found.items ≡ matches_below l.entries l.table l.text l.count;
      marked : l.mark ≡ marks.mark (take l.count l.text);
    }
