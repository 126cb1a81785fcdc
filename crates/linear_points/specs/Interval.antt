-- The intervals of the calls of a run.
use Rattle.std.specs.Prelude.{◌≡◌, ℕ, List, slice_get, Option}
use Rattle.std.specs.Option.{option_map, option_and_then}
use Rattle.step_core.specs.declared.steps.Event.{Event}
use Rattle.linear_points.specs.declared.intervals.Interval.{Interval}
use Rattle.linear_points.specs.declared.intervals.End.{End}
use Rattle.linear_points.specs.Linearization.{first_step, last_step, returned_reply}

-- where the call of this number ended, among the intervals of all calls
abbrev pub end_of : List Interval → ℕ → Option End
end_of intervals n = option_and_then (λ (i : Interval). i.end) (slice_get intervals n)

-- the intervals of the calls, by their numbers, have their first steps, their last steps and what they returned
pub record AreIntervals (es : List Event) (intervals : List Interval) : Type 0 where
  pub first : (n : ℕ) → first_step es n ≡ option_map (λ (i : Interval). i.first) (slice_get intervals n)
  pub last : (n : ℕ) → last_step es n ≡ option_map (λ (e : End). e.index) (end_of intervals n)
  pub reply : (n : ℕ) → returned_reply es n ≡ option_map (λ (e : End). e.reply) (end_of intervals n)
