-- Hands in memory, as hold_turns sees them.
use Rattle.std.specs.Prelude.{◌≡◌, ℕ, List, [], slice_index_or, None}
use Rattle.hold_turns.specs.Views.{HandsView, Act, Idle, Loads, Removes}
use Rattle.hold_machine.specs.declared.hands.Doing.{Doing}
use Rattle.hold_machine.specs.declared.hands.Doing.TheVariants as doings
use Rattle.hold_machine.specs.declared.hands.MemoryHands.{MemoryHands}
use Rattle.hold_machine.specs.Log.{newest_first}
use Rattle.hold_machine.specs.Locks.{owner_in}

abbrev pub act_of : Doing → Act
act_of doings.Nothing = Idle
act_of (doings.Loads m) = Loads m
act_of (doings.Removes m) = Removes m

-- what the hands of a call do; of a number past the end, nothing
abbrev pub doing_in : List Doing → ℕ → Doing
doing_in acts call = slice_index_or acts call doings.Nothing

abbrev pub view_of : MemoryHands → HandsView
view_of hands = record {
  owner = owner_in hands.owners.items;
  acts = λ call. act_of (doing_in hands.acts.items call);
  events = hands.kernel;
  shown = newest_first hands.shown;
}

-- nobody has a lock, no act is under way, and nothing has happened
pub record IsAtRest (hands : HandsView) : Type 0 where
  pub locks : (m : ℕ) → hands.owner m ≡ None
  pub acts : (call : ℕ) → hands.acts call ≡ Idle
  pub events : hands.events ≡ []
