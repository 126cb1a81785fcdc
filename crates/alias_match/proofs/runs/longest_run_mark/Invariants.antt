use Rattle.std.proofs.Common.{◌++◌, length, map}
use Rattle.alias_match.specs.Marks.{IsMarkOf}
use Rattle.alias_match.specs.Pattern.{byte}
use Rattle.alias_match.proofs.MarkLemmas.{IsTail}
use Rattle.alias_match.proofs.runs.longest_run_mark.Given as goal

abbrev pub invariant-runs : goal.invariant-runs
invariant-runs l =
    record {
      marked : IsMarkOf l.mark (map (λ b. byte b) l.fn.front ++ l.fn.items);
      left : IsTail (map (λ b. byte b) l.fn.front ++ l.fn.items) l.rest;
    }

abbrev pub decreases-runs : goal.decreases-runs
decreases-runs l = length l.rest
