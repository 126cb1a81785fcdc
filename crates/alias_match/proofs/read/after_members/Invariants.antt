use Rattle.std.proofs.Common.{◌≤◌, List, length}
use Rattle.alias_match.specs.declared.item.ByteRange.{ByteRange}
use Rattle.alias_match.proofs.Reading.{CompletesMembers}
use Rattle.alias_match.proofs.read.after_members.Given as goal

abbrev pub invariant-members : goal.invariant-members
invariant-members l = (front : List ByteRange) × CompletesMembers l.text front l.rest × (length l.rest ≤ length l.text)

abbrev pub decreases-members : goal.decreases-members
decreases-members l = length l.rest
