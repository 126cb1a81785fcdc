-- What a call that never waits did, by how it ended: the caller before, how it ended, the caller after.
use Rattle.std.specs.Prelude.{◌≡◌, ℕ, ◌<◌, ◌≤◌, Option, Some, None}
use Rattle.dep_index.specs.declared.table.calls.Call.{Call}
use Rattle.dep_index.specs.declared.table.calls.Call.TheVariants.{Get}
use Rattle.dep_index.specs.declared.table.calls.Reply.{Reply}
use Rattle.dep_index.specs.Table.{Table}
use Rattle.root_row.specs.World.{slots}
use Rattle.root_row.specs.Seats.{Seated}
use Rattle.root_row.specs.declared.view.SeatName.TheVariants as name_is
use Rattle.managed_table.specs.declared.attempt.Attempt.{Attempt}
use Rattle.managed_table.specs.declared.attempt.Attempt.TheVariants.{OutOfRange, LockBusy, Missed, Answered}
use Rattle.managed_table.specs.Turns.{MadeOneCall, MadeNoCall}
use Rattle.managed_table.specs.Callers.{CallerIs, LeafMissed, BookMissed, LeafTurned}
use Rattle.managed_table.specs.Shown.{HoldsSoOften}
use Rattle.managed_table.specs.Hearing.{Met}
use Rattle.managed_table.specs.Tries.{GaveUp, AnsweredWithin}
use Rattle.managed_table.specs.Owned.{row_of, IsBeyond, IsWithin}

-- What each ending says. OutOfRange: the call is outside the table, and nothing was done. Else it is inside. LockBusy: nothing was
-- done but tries of the lock. Missed: the lock was had, and the call was given up. Answered: the call did this
abbrev pub Ended : {R : Type 0} → (Outside Inside Busy GivenUp : Type 0) → (R → Type 0) → CallerIs → Attempt R → CallerIs → Type 0
Ended Outside Inside Busy GivenUp Did before OutOfRange after = Outside × (after ≡ before)
Ended Outside Inside Busy GivenUp Did before LockBusy after = Inside × Busy
Ended Outside Inside Busy GivenUp Did before Missed after = Inside × GivenUp
Ended Outside Inside Busy GivenUp Did before (Answered answer) after = Inside × Did answer

-- how a call ended that always gets its lock, or takes none: it was answered, or not made
abbrev pub attempt_of : {R : Type 0} → Option R → Attempt R
attempt_of None = OutOfRange
attempt_of (Some answer) = Answered answer

-- if no answer was given, the call was given up
abbrev pub missed_or : {R : Type 0} → Attempt (Option R) → Attempt R
missed_or OutOfRange = OutOfRange
missed_or LockBusy = LockBusy
missed_or Missed = Missed
missed_or (Answered None) = Missed
missed_or (Answered (Some answer)) = Answered answer

-- a call of a worker's leaf, with so many tries of its lock
abbrev pub LeafEnded : {R : Type 0} → ℕ → ℕ → ℕ → Type 0 → (R → Type 0) → CallerIs → Attempt R → CallerIs → Type 0
LeafEnded worker slot tries GivenUp Did before ended after =
    Ended (IsBeyond before worker slot) (IsWithin before worker slot) (LeafMissed worker tries before after) GivenUp Did before ended after

-- a call of the book, which is never given up once it has the lock
abbrev pub BookEnded : {R : Type 0} → ℕ → ℕ → (R → Type 0) → CallerIs → Attempt R → CallerIs → Type 0
BookEnded slot tries Did before ended after =
    Ended (slots (row_of before).world ≤ slot) (slot < slots (row_of before).world) (BookMissed tries before after) ⊥ Did before ended after

-- a look at the book that names no slot
abbrev pub LookEnded : {R : Type 0} → ℕ → (R → Type 0) → CallerIs → Attempt R → CallerIs → Type 0
LookEnded tries Did before ended after = Ended ⊥ (Unit {0}) (BookMissed tries before after) ⊥ Did before ended after

-- in one turn the worker's leaf made this call, which was answered so, and the caller did nothing else
abbrev pub LeafDid : ℕ → Call → CallerIs → CallerIs → Reply → Type 0
LeafDid worker call before after reply =
    MadeOneCall (row_of before) worker (name_is.Leaf worker) call reply before.leaves.pass after.leaves.pass × (after.book ≡ before.book)

-- and so did the book
abbrev pub BookDid : Call → CallerIs → CallerIs → Reply → Type 0
BookDid call before after reply =
    MadeOneCall (row_of before) 0 name_is.Book call reply before.book.pass after.book.pass × (after.leaves ≡ before.leaves)

-- in one turn without a call the worker's leaf showed this of the table, and the caller did nothing else
abbrev pub LeafShows : ℕ → (Table → Type 0) → CallerIs → CallerIs → Type 0
LeafShows worker Shows before after =
    MadeNoCall (row_of before) worker Shows before.leaves.pass after.leaves.pass × (after.book ≡ before.book)

-- and so did the book
abbrev pub BookShows : (Table → Type 0) → CallerIs → CallerIs → Type 0
BookShows Shows before after =
    MadeNoCall (row_of before) 0 Shows before.book.pass after.book.pass × (after.leaves ≡ before.leaves)

-- a get had the lock and was given up: the worker holds no reference, and its leaf missed just so many tries of the module's word
abbrev pub GetGivenUp : ℕ → ℕ → ℕ → CallerIs → CallerIs → Type 0
GetGivenUp worker slot tries before after =
    LeafShows worker (HoldsSoOften worker slot 0) before after × LeafTurned worker (GaveUp tries slot) before after

-- a get was answered so, after fewer misses
abbrev pub GetDid : ℕ → ℕ → ℕ → CallerIs → CallerIs → Reply → Type 0
GetDid worker slot tries before after reply =
    LeafDid worker (Get worker slot) before after reply × LeafTurned worker (AnsweredWithin tries slot reply) before after

-- the worker's leaf and a teller hear of each other
abbrev pub LeafMeets : {R : Type 0} → ℕ → ℕ → Seated → Seated → CallerIs → Attempt R → CallerIs → Type 0
LeafMeets worker tries teller teller' before ended after =
    Ended (((row_of before).world.workers ≤ worker) × (teller' ≡ teller)) (worker < (row_of before).world.workers)
    (LeafMissed worker tries before after × (teller' ≡ teller)) ⊥
    (λ _. Met (row_of before) worker (name_is.Leaf worker) before.leaves.pass after.leaves.pass teller.view teller'.view × (after.book ≡ before.book))
    before ended after

-- and so do the book and a teller
abbrev pub BookMeets : {R : Type 0} → ℕ → Seated → Seated → CallerIs → Attempt R → CallerIs → Type 0
BookMeets tries teller teller' before ended after =
    Ended ⊥ (Unit {0}) (BookMissed tries before after × (teller' ≡ teller)) ⊥
    (λ _. Met (row_of before) 0 name_is.Book before.book.pass after.book.pass teller.view teller'.view × (after.leaves ≡ before.leaves))
    before ended after
