-- Which number a call answers, by how it ended.
use Rattle.std.specs.Prelude.{◌≡◌, ℕ, Result, Err, Some}
use Rattle.dep_index.specs.declared.table.calls.Reply.{Reply}
use Rattle.dep_index.specs.declared.table.states.ModuleState.{ModuleState}
use Rattle.dep_index.specs.declared.table.refusals.BeginLoadError.{BeginLoadError}
use Rattle.dep_index.specs.declared.table.refusals.BeginLoadError.TheVariants.{NeedNotLive}
use Rattle.dep_index.specs.Refusals.{reply_of}
use Rattle.managed_table.specs.declared.attempt.Attempt.{Attempt}
use Rattle.managed_table.specs.declared.attempt.Attempt.TheVariants.{OutOfRange, LockBusy, Missed, Answered}
use Rattle.gourzhiel.specs.Numbers.{reply_at, need_of, state_at, busy, out_of_range}

-- the number of how a call ended, whose refusals are these replies
abbrev pub IsNumberOf : {E : Type 0} → (E → Reply) → Attempt (Result (Unit {0}) E) → ℕ → Type 0
IsNumberOf refusal OutOfRange number = number ≡ out_of_range
IsNumberOf refusal LockBusy number = number ≡ busy
IsNumberOf refusal Missed number = number ≡ busy
IsNumberOf refusal (Answered answer) number = reply_at number (need_of (reply_of refusal answer)) ≡ Some (reply_of refusal answer)

-- the number of how a look at a state ended
abbrev pub IsNumberOfState : Attempt ModuleState → ℕ → Type 0
IsNumberOfState OutOfRange number = number ≡ out_of_range
IsNumberOfState LockBusy number = number ≡ busy
IsNumberOfState Missed number = number ≡ busy
IsNumberOfState (Answered state) number = state_at number ≡ Some state

-- the need that is not live, if a load ended so, or what was there
abbrev pub NeedTold : Attempt (Result (Unit {0}) BeginLoadError) → ℕ → ℕ → Type 0
NeedTold (Answered (Err (NeedNotLive found))) was need = need ≡ found
NeedTold _ was need = need ≡ was
