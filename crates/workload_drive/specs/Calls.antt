-- The calls of a script's lines.
use Rattle.std.specs.Prelude.{◌≡◌, ℕ, true, Option, Some, None}
use Rattle.dep_index.specs.declared.table.calls.Call.{Call}
use Rattle.dep_index.specs.declared.table.calls.Call.TheVariants as calls
use Rattle.dep_index.specs.declared.table.calls.Reply.{Reply}
use Rattle.dep_index.specs.declared.table.calls.Reply.TheVariants.{Done}
use Rattle.workload_drive.specs.declared.script.acts.Change.{Change}
use Rattle.workload_drive.specs.declared.script.acts.Change.TheVariants.{Load, Remove, Drain, Finish, Keep}
use Rattle.workload_drive.specs.declared.script.acts.Deed.{Deed}
use Rattle.workload_drive.specs.declared.script.acts.Deed.TheVariants.{Get, Put, Query, Make}

-- the first call of a change
abbrev pub first_of : Change → ℕ → Call
first_of Load slot = calls.BeginLoad slot
first_of Remove slot = calls.BeginRemove slot
first_of Drain slot = calls.BeginDrain slot
first_of Finish slot = calls.EndRemove slot
first_of Keep slot = calls.CancelRemove slot

-- the call that is made if the first was Done
abbrev pub second_of : Change → ℕ → Option Call
second_of Load slot = Some (calls.EndLoad slot true)
second_of Remove slot = Some (calls.EndRemove slot)
second_of Drain slot = None
second_of Finish slot = None
second_of Keep slot = None

-- if the first call had this reply: the second was made and answered so, or there is none and that is the reply
abbrev pub Ended : {T : Type 0} → (T → Call → Reply → T → Type 0) → Option Call → Reply → Reply → T → T → Type 0
Ended made (Some call) Done reply between new = made between call reply new
Ended made second first reply between new = (reply ≡ first) × (new ≡ between)

-- the calls of a change were made, each once, and it was answered so
pub record ChangeMade {T : Type 0} (made : T → Call → Reply → T → Type 0) (change : Change) (slot : ℕ) (reply : Reply) (old new : T) : Type 0 where
  pub first : Reply
  pub between : T
  pub begun : made old (first_of change slot) first between
  pub ended : Ended made (second_of change slot) first reply between new

-- the calls of a worker's line were made, each once, and it was answered so; a query is none of them
abbrev pub LineMade : {T : Type 0} → (T → Call → Reply → T → Type 0) → ℕ → Deed → ℕ → Reply → T → T → Type 0
LineMade made worker Get slot reply old new = made old (calls.Get worker slot) reply new
LineMade made worker Put slot reply old new = made old (calls.Put worker slot) reply new
LineMade made worker Query slot reply old new = new ≡ old
LineMade made worker (Make change) slot reply old new = ChangeMade made change slot reply old new
