-- What a line of the table changes, as in dep_index's Calls.
use Rattle.std.specs.Prelude.{◌≡◌, ◌⊎◌, ℕ, Bool, true, false, ◌||◌, List, Contains, Option, Some, None}
use Rattle.dep_index.specs.declared.table.states.ModuleState.{ModuleState}
use Rattle.dep_index.specs.declared.table.states.ModuleState.TheVariants.{Absent, Loading, Live, Draining, Unloading}
use Rattle.dep_index.specs.Table.{is_absent, is_loading, is_live, is_draining, is_unloading}
use Rattle.hold_turns.specs.declared.table.Half.{Half}
use Rattle.hold_turns.specs.declared.table.Half.TheVariants.{BeginLoad, LoadDone, LoadFailed, BeginRemove, EndRemove, CancelRemove}
use Rattle.hold_turns.specs.Views.{TableView}

-- the half may follow this state
abbrev pub may_follow : Half → ModuleState → Bool
may_follow BeginLoad state = is_absent state
may_follow LoadDone state = is_loading state
may_follow LoadFailed state = is_loading state
may_follow BeginRemove state = is_live state
may_follow EndRemove state = is_unloading state || is_draining state
may_follow CancelRemove state = is_unloading state || is_draining state

-- the state after the half
abbrev pub state_after : Half → ModuleState
state_after BeginLoad = Loading
state_after LoadDone = Live
state_after LoadFailed = Absent
state_after BeginRemove = Unloading
state_after EndRemove = Absent
state_after CancelRemove = Live

-- it takes away what nobody may hold
abbrev pub is_removal : Half → Bool
is_removal BeginRemove = true
is_removal EndRemove = true
is_removal _ = false

-- The half of one module was made, or nothing was.
pub record MayMake (half : Half) (slot : ℕ) (old new : TableView) : Type 0 where
  pub holds : (holder : List ℕ) (m : ℕ) → new.holds holder m ≡ old.holds holder m
  pub others : (m : ℕ) → (m ≡ slot) ⊎ (new.states m ≡ old.states m)
  pub state : (new.states slot ≡ old.states slot) ⊎ (may_follow half (old.states slot) ≡ true) × (new.states slot ≡ state_after half)
  pub unheld : is_removal half ≡ true → (new.states slot ≡ old.states slot) ⊎ ((holder : List ℕ) → old.holds holder slot ≡ false)

-- A holder got live modules that it did not hold, or nothing was made.
pub record MayHold (holder modules : List ℕ) (old new : TableView) : Type 0 where
  pub states : (m : ℕ) → new.states m ≡ old.states m
  pub kept : (h : List ℕ) (m : ℕ) → old.holds h m ≡ true → new.holds h m ≡ true
  pub only : (h : List ℕ) (m : ℕ) → new.holds h m ≡ true → (old.holds h m ≡ true) ⊎ (holder ≡ h) × Contains modules m × (old.states m ≡ Live)

-- A holder gave modules back, or nothing was made.
pub record MayRelease (holder modules : List ℕ) (old new : TableView) : Type 0 where
  pub states : (m : ℕ) → new.states m ≡ old.states m
  pub fewer : (h : List ℕ) (m : ℕ) → new.holds h m ≡ true → old.holds h m ≡ true
  pub only : (h : List ℕ) (m : ℕ) → old.holds h m ≡ true → (new.holds h m ≡ true) ⊎ (holder ≡ h) × Contains modules m

-- what ends a half that somebody left, by whether the kernel has the module. A drain is called off: who
-- began it has the lock no more
abbrev pub ending_of : ModuleState → Bool → Option Half
ending_of Loading true = Some LoadDone
ending_of Loading false = Some LoadFailed
ending_of Unloading true = Some CancelRemove
ending_of Unloading false = Some EndRemove
ending_of Draining true = Some CancelRemove
ending_of Draining false = None
ending_of Live there = None
ending_of Absent there = None
