use Rattle.std.proofs.Common.{◌≡◌, ◌++◌, IfSome, Some, filter, slice_get}
use Rattle.alias_match.specs.ForProofs.{is_match_at, places_of}
use Rattle.alias_match.proofs.Walked.{place_count, places_from}
use Rattle.alias_match.proofs.alias_list.add_of_key.Given as goal

-- what is found, and then the matches from the next place on
abbrev pub invariant-places : goal.invariant-places
invariant-places l = record {
  found : l.found.items ++ filter (is_match_at l.entries l.text) (places_from l.key l.table l.next) ≡ l.initial.found.items ++ filter (is_match_at l.entries l.text) (places_of l.key l.table);
  next : IfSome l.next (λ place. slice_get l.table place ≡ Some l.key);
}

abbrev pub decreases-places : goal.decreases-places
decreases-places l = place_count l.next
