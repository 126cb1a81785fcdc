use Rattle.std.proofs.Common.{◌≡◌, ◌≤◌, length}
use Rattle.load_plan.specs.Parameters.{at_most, number_from, number_of}
use Rattle.load_plan.proofs.values.is_within.Given as goal

abbrev pub invariant-digits : goal.invariant-digits
invariant-digits l = record {
  small : l.number ≤ l.limit;
  same : at_most l.limit (number_from l.base l.number l.rest) ≡ at_most l.limit (number_of l.base l.digits);
}

abbrev pub decreases-digits : goal.decreases-digits
decreases-digits l = length l.rest
