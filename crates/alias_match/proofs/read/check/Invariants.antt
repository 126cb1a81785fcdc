use Rattle.std.proofs.Common.{List, length}
use Rattle.alias_match.specs.Pattern.{Piece}
use Rattle.alias_match.proofs.Reading.{CompletesItems}
use Rattle.alias_match.proofs.read.check.Given as goal

abbrev pub invariant-items : goal.invariant-items
invariant-items l = (front : List Piece) × CompletesItems l.text front l.rest

abbrev pub decreases-items : goal.decreases-items
decreases-items l = length l.rest
