-- A table in memory, as hold_turns sees it.
use Rattle.std.specs.Prelude.{◌≡◌, ◌⊎◌, ◌<◌, nat_lt, ℕ, Bool, true, false, List, length}
use Rattle.dep_index.specs.declared.table.states.ModuleState.TheVariants.{Absent, Live}
use Rattle.dep_index.specs.declared.table.calls.Call.{Call}
use Rattle.dep_index.specs.declared.table.calls.Call.TheVariants as calls
use Rattle.dep_index.specs.Table.{Table, state_of, count_of}
use Rattle.held_table.specs.Held.{Held, HeldOver, number_of}
use Rattle.hold_turns.specs.declared.table.Half.{Half}
use Rattle.hold_turns.specs.declared.table.Half.TheVariants.{BeginLoad, LoadDone, LoadFailed, BeginRemove, EndRemove, CancelRemove}
use Rattle.hold_turns.specs.Views.{TableView}
use Rattle.hold_machine.specs.declared.table.MemoryTable.{MemoryTable}

-- the holder of a number holds the module
abbrev pub holds_at : Table → ℕ → ℕ → Bool
holds_at table number m = nat_lt 0 (count_of table number m)

abbrev pub view_of_held : Held → TableView
view_of_held held = record {
  states = state_of held.table.book;
  holds = λ holder m. holds_at held.table (number_of held.names holder) m;
}

abbrev pub view_of : MemoryTable → TableView
view_of table = view_of_held table.table.held

-- all modules are absent, and nobody holds anything
pub record IsEmpty (table : TableView) : Type 0 where
  pub states : (m : ℕ) → table.states m ≡ Absent
  pub holds : (holder : List ℕ) (m : ℕ) → table.holds holder m ≡ false

-- the call of the one-thread table that makes a half
abbrev pub call_of : Half → ℕ → Call
call_of BeginLoad m = calls.BeginLoad m
call_of LoadDone m = calls.EndLoad m true
call_of LoadFailed m = calls.EndLoad m false
call_of BeginRemove m = calls.BeginRemove m
call_of EndRemove m = calls.EndRemove m
call_of CancelRemove m = calls.CancelRemove m

-- there is a module of the slot, and it is live
pub record IsLiveIn (over : HeldOver) (m : ℕ) : Type 0 where
  pub within : m < length over.catalogue
  pub live : state_of over.held.table.book m ≡ Live

-- what stays as it is while holders get modules or give them back
pub record StaysOver (old new : HeldOver) : Type 0 where
  pub catalogue : new.catalogue ≡ old.catalogue
  pub names : new.held.names ≡ old.held.names
  pub book : new.held.table.book ≡ old.held.table.book
  pub rows : length new.held.table.rows ≡ length old.held.table.rows

-- the holder of a number got some of these modules
pub record Takes (number : ℕ) (These : ℕ → Type 0) (old new : HeldOver) : Type 0 where
  pub stays : StaysOver old new
  pub kept : (w m : ℕ) → holds_at old.held.table w m ≡ true → holds_at new.held.table w m ≡ true
  pub only : (w m : ℕ) → holds_at new.held.table w m ≡ true → (holds_at old.held.table w m ≡ true) ⊎ (w ≡ number) × These m

-- the holder of a number gave some of these modules back
pub record Gives (number : ℕ) (These : ℕ → Type 0) (old new : HeldOver) : Type 0 where
  pub stays : StaysOver old new
  pub fewer : (w m : ℕ) → holds_at new.held.table w m ≡ true → holds_at old.held.table w m ≡ true
  pub only : (w m : ℕ) → holds_at old.held.table w m ≡ true → (holds_at new.held.table w m ≡ true) ⊎ (w ≡ number) × These m
