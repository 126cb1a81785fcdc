-- How a call of all that one worker holds ended: the caller before, the number that is answered, the caller after.
use Rattle.std.specs.Prelude.{◌≡◌, ℕ, ◌<◌, ◌≤◌, ◌==◌, Option, Some, None, MatchBool}
use Rattle.managed_table.specs.declared.attempt.Attempt.{Attempt}
use Rattle.managed_table.specs.declared.attempt.Attempt.TheVariants.{OutOfRange, LockBusy, Missed, Answered}
use Rattle.managed_table.specs.declared.holdings.Holding.{Holding}
use Rattle.managed_table.specs.Attempts.{LeafShows}
use Rattle.managed_table.specs.Callers.{CallerIs, LeafMissed}
use Rattle.managed_table.specs.Holdings.{IsFirstHeld, WorkerEnded, LeafGaveAllBack}
use Rattle.managed_table.specs.Owned.{row_of}
use Rattle.gourzhiel.specs.Numbers.{busy, not_held, out_of_range}

-- all that the worker held was given back; or nothing was done, and the number says why
abbrev pub PutAllEnded : CallerIs → ℕ → ℕ → ℕ → CallerIs → Type 0
PutAllEnded before worker tries number after =
    MatchBool (number == out_of_range) (((row_of before).world.workers ≤ worker) × (after ≡ before))
    ((worker < (row_of before).world.workers) × MatchBool (number == busy) (LeafMissed worker tries before after)
    ((number ≡ 0) × LeafGaveAllBack worker before after))

-- what is told of the first slot that a worker holds: it and how often; or what was there, and the number says why
abbrev pub IsHoldingTold : Attempt (Option Holding) → ℕ → ℕ → ℕ → ℕ → ℕ → Type 0
IsHoldingTold OutOfRange was_slot was_count number slot count = (number ≡ out_of_range) × (slot ≡ was_slot) × (count ≡ was_count)
IsHoldingTold LockBusy was_slot was_count number slot count = (number ≡ busy) × (slot ≡ was_slot) × (count ≡ was_count)
IsHoldingTold Missed was_slot was_count number slot count = (number ≡ busy) × (slot ≡ was_slot) × (count ≡ was_count)
IsHoldingTold (Answered None) was_slot was_count number slot count = (number ≡ not_held) × (slot ≡ was_slot) × (count ≡ was_count)
IsHoldingTold (Answered (Some found)) was_slot was_count number slot count = (number ≡ 0) × (slot ≡ found.slot) × (count ≡ found.count)

-- the first slot from a place on that the worker holds
abbrev pub HeldByTold : CallerIs → ℕ → ℕ → ℕ → ℕ → ℕ → ℕ → ℕ → ℕ → CallerIs → Type 0
HeldByTold before worker place tries was_slot was_count number slot count after =
    (ended : Attempt (Option Holding)) × IsHoldingTold ended was_slot was_count number slot count
    × WorkerEnded worker tries (λ found. LeafShows worker (IsFirstHeld (row_of before) worker place found) before after) before ended after
