-- What an act of the hands changes.
use Rattle.std.specs.Prelude.{◌≡◌, ◌⊎◌, ℕ, List, ◌∷◌, Some}
use Rattle.hold_turns.specs.Events.{Event, Loaded, Removed}
use Rattle.hold_turns.specs.Views.{HandsView, Act, Idle, Loads, Removes}

-- each lock that a call has stays its own
abbrev pub KeepsLocks : HandsView → HandsView → Type 0
KeepsLocks old new = (m call : ℕ) → old.owner m ≡ Some call → new.owner m ≡ Some call

abbrev pub KeepsActs : HandsView → HandsView → Type 0
KeepsActs old new = (call : ℕ) → new.acts call ≡ old.acts call

-- nothing happened, but that a call may have got locks that nobody had
pub record IsQuiet (old new : HandsView) : Type 0 where
  pub locks : KeepsLocks old new
  pub acts : KeepsActs old new
  pub events : new.events ≡ old.events

-- an event is noted, and nothing else
pub record Notes (event : Event) (old new : HandsView) : Type 0 where
  pub locks : KeepsLocks old new
  pub acts : KeepsActs old new
  pub events : new.events ≡ event ∷ old.events

-- the call gave its locks back
pub record Unlocks (call : ℕ) (old new : HandsView) : Type 0 where
  pub locks : (m c : ℕ) → old.owner m ≡ Some c → (c ≡ call) ⊎ (new.owner m ≡ Some c)
  pub acts : KeepsActs old new
  pub events : new.events ≡ old.events
  pub shown : new.shown ≡ old.shown

-- the act of the call is under way, or was not begun
pub record MayBegin (call : ℕ) (act : Act) (old new : HandsView) : Type 0 where
  pub locks : KeepsLocks old new
  pub others : (c : ℕ) → (c ≡ call) ⊎ (new.acts c ≡ old.acts c)
  pub own : (new.acts call ≡ act) ⊎ (new.acts call ≡ Idle)
  pub events : new.events ≡ old.events

-- what an act that is under way may do to the kernel: its work, or nothing
abbrev pub MayDo : Act → List Event → List Event → Type 0
MayDo Idle old new = new ≡ old
MayDo (Loads m) old new = (new ≡ old) ⊎ (new ≡ Loaded m ∷ old)
MayDo (Removes m) old new = (new ≡ old) ⊎ (new ≡ Removed m ∷ old)

-- the act of the call, if one is under way, goes on or ends
pub record GoesOn (call : ℕ) (old new : HandsView) : Type 0 where
  pub locks : KeepsLocks old new
  pub others : (c : ℕ) → (c ≡ call) ⊎ (new.acts c ≡ old.acts c)
  pub own : (new.acts call ≡ old.acts call) ⊎ (new.acts call ≡ Idle)
  pub events : MayDo (old.acts call) old.events new.events

-- the locks of a call that is over may go, if none of its acts is under way
pub record LetsGo (call : ℕ) (old new : HandsView) : Type 0 where
  pub locks : (m c : ℕ) → old.owner m ≡ Some c → (c ≡ call) × (old.acts call ≡ Idle) ⊎ (new.owner m ≡ Some c)
  pub acts : KeepsActs old new
  pub events : new.events ≡ old.events
