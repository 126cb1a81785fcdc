use Rattle.std.proofs.Common.{◌+◌, ◌*◌, length}
use Rattle.alias_match.proofs.Matching.{Keeps, left_again}
use Rattle.alias_match.proofs.Places.{place_of}
use Rattle.alias_match.proofs.pattern.items_match.Given as goal

abbrev pub invariant-walk : goal.invariant-walk
invariant-walk l = Keeps l.fn.pattern l.text (place_of l.retry) l.items l.rest

abbrev pub decreases-walk : goal.decreases-walk
decreases-walk l = left_again (place_of l.retry) l.text * (length l.fn.pattern + 1) + length l.items
