-- The course of a call, and what choices make of calls.
use Rattle.std.specs.Prelude.{◌≡◌, ℕ, ◌<◌, Bool, true, false, List, [], ◌∷◌, length, slice_index_or}
use Rattle.hold_turns.specs.declared.call.Call.{Call}
use Rattle.hold_turns.specs.declared.call.Job.{Job}
use Rattle.hold_turns.specs.declared.call.State.{State}
use Rattle.hold_turns.specs.declared.call.State.TheVariants.{Begins, Holding, Locking, Bringing, Stepping, Acting, Looking, Over}
use Rattle.hold_turns.specs.declared.run.Choice.{Choice}
use Rattle.hold_turns.specs.declared.run.Choice.TheVariants.{Next, Cut, Ends}
use Rattle.hold_turns.specs.Rule.{is_over, IsCut}

-- The second state may come of a turn in the first. Who has got locks brings before it steps, and who acts waits.
abbrev pub may_come : State → State → Bool
may_come Begins Holding = true
may_come Begins Locking = true
may_come Holding Looking = true
may_come Holding Locking = true
may_come Locking Locking = true
may_come Locking Holding = true
may_come Locking Bringing = true
may_come Bringing Stepping = true
may_come Stepping Acting = true
may_come Stepping Holding = true
may_come Stepping Locking = true
may_come Acting Acting = true
may_come Acting Bringing = true
may_come Looking Locking = true
may_come (Over end) after = false
may_come before (Over end) = true
may_come _ _ = false

-- the call is asked this for these modules and by this plan, and has made no turn
pub record IsAsked (asked : Job) (asker asks planned : List ℕ) (call : Call) : Type 0 where
  pub begins : call.state ≡ Begins
  pub none : call.locked.items ≡ []
  pub job : call.job ≡ asked
  pub holder : call.holder.now ≡ asker
  pub modules : call.modules.now ≡ asks
  pub plan : call.plan.now ≡ planned

-- a call that is not over made a turn, and one that is over stays over
pub record HasTurned (old new : Call) : Type 0 where
  pub turned : is_over old.state ≡ false → may_come old.state new.state ≡ true
  pub stayed : is_over old.state ≡ true → is_over new.state ≡ true

-- the call of this number made a turn, and the others stayed as they were
pub record Turns (number : ℕ) (old new : List Call) : Type 0 where
  pub len : length new ≡ length old
  pub turn : number < length old → (none : Call) → HasTurned (slice_index_or old number none) (slice_index_or new number none)
  pub others : (i : ℕ) (none : Call) → (i ≡ number → ⊥) → slice_index_or new i none ≡ slice_index_or old i none

-- what a choice makes of calls; one that names no call makes nothing
abbrev pub IsChosen : Choice → List Call → List Call → Type 0
IsChosen (Next number) old new = Turns number old new
IsChosen (Cut number) old new = IsCut number old new
IsChosen (Ends number) old new = new ≡ old

-- each choice was made, one after another
abbrev pub AreMade : List Call → List Choice → List Call → Type 0
AreMade old [] new = new ≡ old
AreMade old (choice ∷ later) new = (next : List Call) × IsChosen choice old next × AreMade next later new
