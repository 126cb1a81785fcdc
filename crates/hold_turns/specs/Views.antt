-- What clauses see of the table and of the hands.
use Rattle.std.specs.Prelude.{ℕ, Bool, List, Option}
use Rattle.dep_index.specs.declared.table.states.ModuleState.{ModuleState}
use Rattle.hold_turns.specs.Events.{Event}

-- the state of each module, and which holder holds it
pub record TableView : Type 0 where
  pub states : ℕ → ModuleState
  pub holds : List ℕ → ℕ → Bool

-- what the hands of a call do: nothing, or an insmod or an rmmod of a module is under way
pub data Act : Type 0 where
  Idle : Act
  Loads : (m : ℕ) → Act
  Removes : (m : ℕ) → Act

-- Which call has the lock of each module, alive or cut off; the act of each call that is under way; what happened; and the modules
-- of the last look that showed all it was asked for. That one module has one owner is what the system's locks promise.
pub record HandsView : Type 0 where
  pub owner : ℕ → Option ℕ
  pub acts : ℕ → Act
  pub events : List Event
  pub shown : List ℕ
