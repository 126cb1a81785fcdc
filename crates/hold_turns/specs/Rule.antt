-- The invariant, and the rule of a turn.
use Rattle.std.specs.Prelude.{◌≡◌, ℕ, ◌<◌, Bool, true, false, List, length, slice_index_or, All, Contains, Some}
use Rattle.dep_index.specs.declared.table.states.ModuleState.TheVariants.{Absent, Loading, Unloading}
use Rattle.dep_index.specs.Table.{takes_references}
use Rattle.hold_turns.specs.Events.{IsIn, IsOwed, IsPromised, StaysWhileHeld}
use Rattle.hold_turns.specs.Views.{TableView, HandsView, Act, Idle, Loads, Removes}
use Rattle.hold_turns.specs.declared.call.Call.{Call}
use Rattle.hold_turns.specs.declared.call.State.{State}
use Rattle.hold_turns.specs.declared.call.State.TheVariants as state

-- an act that is under way fits the table, and its call has the lock of its module
abbrev pub Fits : TableView → HandsView → ℕ → Act → Type 0
Fits table hands call Idle = Unit {0}
Fits table hands call (Loads m) = (table.states m ≡ Loading) × (hands.owner m ≡ Some call)
Fits table hands call (Removes m) = (table.states m ≡ Unloading) × (hands.owner m ≡ Some call)

-- Table and kernel are one, as far as no act is under way.
pub record AreOne (table : TableView) (hands : HandsView) : Type 0 where
  pub held : (holder : List ℕ) (m : ℕ) → table.holds holder m ≡ true → takes_references (table.states m) ≡ true
  pub live : (m : ℕ) → takes_references (table.states m) ≡ true → IsIn hands.events m
  pub absent : (m : ℕ) → table.states m ≡ Absent → IsIn hands.events m → ⊥
  pub acts : (call : ℕ) → Fits table hands call (hands.acts call)
  pub promised : (holder : List ℕ) (m : ℕ) → IsPromised hands.events holder m → table.holds holder m ≡ true
  pub stays : StaysWhileHeld hands.events

-- What one call leaves to each other one: its locks, its act, and that what is owed to it is held.
pub record KeepsOthers (call : ℕ) (old : TableView) (old_hands : HandsView) (new : TableView) (new_hands : HandsView) : Type 0 where
  pub locks : (m c : ℕ) → (c ≡ call → ⊥) → old_hands.owner m ≡ Some c → new_hands.owner m ≡ Some c
  pub acts : (c : ℕ) → (c ≡ call → ⊥) → new_hands.acts c ≡ old_hands.acts c
  pub owed : (c : ℕ) (holder : List ℕ) (m : ℕ) → (c ≡ call → ⊥) → (IsOwed old_hands.events c holder m → old.holds holder m ≡ true)
      → IsOwed new_hands.events c holder m → new.holds holder m ≡ true

-- The rule of a turn: table and kernel are one after it, and the others keep what is theirs.
pub record IsTurn (call : ℕ) (old : TableView) (old_hands : HandsView) (new : TableView) (new_hands : HandsView) : Type 0 where
  pub one : AreOne new new_hands
  pub others : KeepsOthers call old old_hands new new_hands

-- the call has these locks
abbrev pub HasLocks : ℕ → List ℕ → HandsView → Type 0
HasLocks call slots hands = All (λ m. hands.owner m ≡ Some call) slots

-- it has these locks, and none of its acts is under way
pub record IsReady (call : ℕ) (slots : List ℕ) (hands : HandsView) : Type 0 where
  pub locks : HasLocks call slots hands
  pub idle : hands.acts call ≡ Idle

-- the holder holds each of these modules that is owed to the call
abbrev pub HoldsOwed : ℕ → List ℕ → List ℕ → TableView → HandsView → Type 0
HoldsOwed call holder modules table hands =
    (m : ℕ) → Contains modules m → IsOwed hands.events call holder m → table.holds holder m ≡ true

-- the call makes no further turn
abbrev pub is_over : State → Bool
is_over (state.Over end) = true
is_over _ = false

-- the state is one in which a call needs no locks
abbrev pub needs_no_lock : State → Bool
needs_no_lock (state.Over end) = true
needs_no_lock state.Holding = true
needs_no_lock state.Locking = true
needs_no_lock _ = false

-- what is known in a state of a call
abbrev pub KnowsIn : State → ℕ → Call → TableView → HandsView → Type 0
KnowsIn (state.Over end) number call table hands = Unit {0}
KnowsIn state.Acting number call table hands = HasLocks number call.locked.items hands
KnowsIn state.Looking number call table hands = IsReady number call.locked.items hands × HoldsOwed number call.holder.now call.modules.now table hands
KnowsIn state.Begins number call table hands = IsReady number call.locked.items hands
KnowsIn state.Holding number call table hands = IsReady number call.locked.items hands
KnowsIn state.Locking number call table hands = IsReady number call.locked.items hands
KnowsIn state.Bringing number call table hands = IsReady number call.locked.items hands
KnowsIn state.Stepping number call table hands = IsReady number call.locked.items hands

-- what a call knows between its turns
abbrev pub Knows : ℕ → Call → TableView → HandsView → Type 0
Knows number call table hands = KnowsIn call.state number call table hands

-- each of these calls knows that, each by its number
abbrev pub AllKnow : List Call → TableView → HandsView → Type 0
AllKnow calls table hands = (i : ℕ) (none : Call) → i < length calls → Knows i (slice_index_or calls i none) table hands

-- the call of this number is over
abbrev pub IsOverAt : ℕ → List Call → Type 0
IsOverAt number calls = (none : Call) → is_over (slice_index_or calls number none).state ≡ true

-- the call of this number is over, and the others are as they were
pub record IsCut (number : ℕ) (old new : List Call) : Type 0 where
  pub len : length new ≡ length old
  pub over : number < length old → IsOverAt number new
  pub others : (i : ℕ) (none : Call) → (i ≡ number → ⊥) → slice_index_or new i none ≡ slice_index_or old i none
