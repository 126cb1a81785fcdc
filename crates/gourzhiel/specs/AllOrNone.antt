-- How a get of several slots for one worker ended: the caller before, the number that is answered, the caller after.
use Rattle.std.specs.Prelude.{◌≡◌, ℕ, List, Result, Ok, Err, Option, Some, None}
use Rattle.dep_index.specs.declared.table.refusals.GetError.{GetError}
use Rattle.dep_index.specs.Refusals.{get_refusal}
use Rattle.managed_table.specs.declared.all_or_none.NotTaken.{NotTaken}
use Rattle.managed_table.specs.declared.attempt.Attempt.{Attempt}
use Rattle.managed_table.specs.declared.attempt.Attempt.TheVariants.{OutOfRange, LockBusy, Missed, Answered}
use Rattle.managed_table.specs.AllOrNone.{AllOrNoneEnded}
use Rattle.managed_table.specs.Callers.{CallerIs}
use Rattle.gourzhiel.specs.Numbers.{reply_at, busy, out_of_range}

-- why one was not taken: it was refused, and its place is told; or it was missed
abbrev pub IsRefusalTold : Option GetError → ℕ → ℕ → ℕ → ℕ → Type 0
IsRefusalTold None place was number at = (number ≡ busy) × (at ≡ was)
IsRefusalTold (Some error) place was number at = (reply_at number 0 ≡ Some (get_refusal error)) × (at ≡ place)

-- the number of how the call ended, and the place of a slot that was refused, or what was there
abbrev pub IsTakenTold : Attempt (Result (Unit {0}) NotTaken) → ℕ → ℕ → ℕ → Type 0
IsTakenTold OutOfRange was number at = (number ≡ out_of_range) × (at ≡ was)
IsTakenTold LockBusy was number at = (number ≡ busy) × (at ≡ was)
IsTakenTold Missed was number at = (number ≡ busy) × (at ≡ was)
IsTakenTold (Answered (Ok _)) was number at = (number ≡ 0) × (at ≡ was)
IsTakenTold (Answered (Err failed)) was number at = IsRefusalTold failed.refusal failed.place was number at

-- all were taken, or none
abbrev pub GetAllEnded : CallerIs → ℕ → List ℕ → ℕ → ℕ → ℕ → ℕ → CallerIs → Type 0
GetAllEnded before worker wanted tries was number at after =
    (ended : Attempt (Result (Unit {0}) NotTaken)) × IsTakenTold ended was number at × AllOrNoneEnded worker wanted tries before ended after
