-- What a query is answered, and how answers go one after another.
use Rattle.std.specs.Prelude.{ℕ, Bool, true, false, not, ◌||◌, List, [], ◌∷◌, ◌++◌}
use Rattle.kmod_query.specs.declared.answer.Failure.{Failure}

-- standard output, what failed, and whether the status is 1
pub record Answer : Type 0 where
  pub output : List ℕ
  pub failures : List Failure
  pub failed : Bool

abbrev pub nothing : Answer
nothing = record { output = []; failures = []; failed = false }

abbrev pub said : List ℕ → Answer
said output = record { output = output; failures = []; failed = false }

abbrev pub failing : Failure → Answer
failing failure = record { output = []; failures = failure ∷ []; failed = true }

-- a refusal of a soft item has no effect on the status
abbrev pub noted : Bool → Failure → Answer
noted soft failure = record { output = []; failures = failure ∷ []; failed = not soft }

-- a failure without a message
abbrev pub silent_failure : Answer
silent_failure = record { output = []; failures = []; failed = true }

-- one answer after another: the status of the last counts
abbrev pub and_then : Answer → Answer → Answer
and_then first next =
    record { output = first.output ++ next.output; failures = first.failures ++ next.failures; failed = next.failed }

-- one answer after another: each status counts
abbrev pub and_also : Answer → Answer → Answer
and_also first next =
    record {
      output = first.output ++ next.output;
      failures = first.failures ++ next.failures;
      failed = first.failed || next.failed;
    }
