-- Calls that hold modules of a kernel.
use Rattle.std.specs.Prelude.{◌≡◌, ◌<◌, ℕ, List, [], length, slice_index_or}
use Rattle.hold_turns.specs.declared.call.Call.{Call}
use Rattle.hold_turns.specs.declared.call.State.TheVariants.{Begins}
use Rattle.hold_turns.specs.Views.{HandsView, Idle}

-- the call of a number has made no turn and has no locks, and its hands do nothing
pub record HasNotBegun (number : ℕ) (call : Call) (hands : HandsView) : Type 0 where
  pub state : call.state ≡ Begins
  pub locks : call.locked.items ≡ []
  pub idle : hands.acts number ≡ Idle

-- no call has begun, each by its number
abbrev pub HaveNotBegun : List Call → HandsView → Type 0
HaveNotBegun calls hands = (i : ℕ) (none : Call) → i < length calls → HasNotBegun i (slice_index_or calls i none) hands
