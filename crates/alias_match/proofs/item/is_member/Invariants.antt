use Rattle.std.proofs.Common.{◌≡◌, length}
use Rattle.std.specs.List.{list_any}
use Rattle.alias_match.specs.Pattern.{in_range}
use Rattle.alias_match.specs.Reading.{IsSet, members_of}
use Rattle.alias_match.proofs.item.is_member.Given as goal

abbrev pub invariant-members : goal.invariant-members
invariant-members l =
    record {
      said : list_any (in_range l.byte) (members_of l.rest) ≡ list_any (in_range l.byte) (members_of l.members);
      set : IsSet l.rest;
    }

abbrev pub decreases-members : goal.decreases-members
decreases-members l = length l.rest
