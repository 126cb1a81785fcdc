-- How a run begins.
use Rattle.std.specs.Prelude.{◌≡◌, ◌<◌, ℕ, List, [], length, slice_index_or}
use Rattle.hold_turns.specs.declared.call.Call.{Call}
use Rattle.hold_turns.specs.declared.call.Job.TheVariants as jobs
use Rattle.hold_turns.specs.Course.{IsAsked}
use Rattle.hold_machine.specs.declared.asked.Asked.{Asked}
use Rattle.hold_machine.specs.declared.asked.Asked.TheVariants.{Get, Put, Remove}

-- the call is asked this, and has made no turn
abbrev pub IsBegun : Asked → Call → Type 0
IsBegun (Get holder modules plan) call = IsAsked jobs.Get holder.now modules.now plan.now call
IsBegun (Put holder modules) call = IsAsked jobs.Put holder.now modules.now [] call
IsBegun (Remove plan) call = IsAsked jobs.Remove [] [] plan.now call

-- each call is asked what stands at its number
pub record AreBegun (asked : List Asked) (calls : List Call) : Type 0 where
  pub len : length calls ≡ length asked
  pub each : (i : ℕ) (none : Asked) (other : Call) → i < length asked → IsBegun (slice_index_or asked i none) (slice_index_or calls i other)
