-- All that one worker holds: how a turn gives it back, and how a turn looks through it.
use Rattle.std.specs.Prelude.{◌≡◌, ℕ, zero, suc, ◌<◌, ◌≤◌, List, [], ◌∷◌, ◌++◌, replicate, slice_index, Option, Some, None}
use mathlib.Core.Option.{some}
use lib.ListN.{get_elem?}
use Rattle.dep_index.specs.declared.table.calls.Call.TheVariants.{Put}
use Rattle.dep_index.specs.declared.table.calls.Reply.TheVariants.{Done}
use Rattle.dep_index.specs.History.{IsLegal}
use Rattle.dep_index.specs.Table.{Table}
use Rattle.root_row.specs.declared.view.SeatAnswer.{SeatAnswer}
use Rattle.root_row.specs.declared.view.AtomicStep.{AtomicStep}
use Rattle.root_row.specs.declared.view.SeatName.TheVariants as name_is
use Rattle.root_row.specs.History.{seat_answer, answers_in, table_after, own_answers, StartsWith}
use Rattle.root_row.specs.Seats.{RowIs, Seated}
use Rattle.root_row.specs.Views.{worker_of, count_of}
use Rattle.root_row.specs.World.{slots}
use Rattle.managed_table.specs.declared.attempt.Attempt.{Attempt}
use Rattle.managed_table.specs.declared.holdings.Holding.{Holding}
use Rattle.managed_table.specs.declared.view.Pass.{Pass}
use Rattle.managed_table.specs.Kept.{seen}
use Rattle.managed_table.specs.Turns.{turn, with_turns, with_misses, Follows}
use Rattle.managed_table.specs.Shown.{HoldsSoOften}
use Rattle.managed_table.specs.Callers.{CallerIs, LeafMissed}
use Rattle.managed_table.specs.Owned.{row_of}
use Rattle.managed_table.specs.Attempts.{Ended}

-- a put by the worker that is done
abbrev pub put_done : ℕ → ℕ → SeatAnswer
put_done worker slot = seat_answer (name_is.Leaf worker) (Put worker slot) Done

-- the puts of a worker that holds each slot so often, for the slots below this one: slot by slot, each as often as it is held
abbrev pub puts_below : ℕ → List ℕ → ℕ → List SeatAnswer
puts_below worker counts zero = []
puts_below worker counts (suc slot) = puts_below worker counts slot ++ replicate (slice_index counts slot) (put_done worker slot)

-- the leaf has seen all that it had seen, and has made just these calls of its own since, in this order
pub record MadeInOrder (answers : List SeatAnswer) (old new : Seated) : Type 0 where
  pub begins : StartsWith (seen new) (seen old)
  pub own : own_answers (name_is.Leaf (worker_of old.view)) (seen new) ≡ own_answers (name_is.Leaf (worker_of old.view)) (seen old) ++ answers

-- of the slots from one to before another the leaf holds none
abbrev pub HasNone : Seated → ℕ → ℕ → Type 0
HasNone leaf from to = (slot : ℕ) → from ≤ slot → slot < to → count_of leaf.view slot ≡ 0

-- and so does the worker in the table
abbrev pub HoldsNone : ℕ → ℕ → ℕ → Table → Type 0
HoldsNone worker from to t = (slot : ℕ) → from ≤ slot → slot < to → HoldsSoOften worker slot 0 t

-- The pass made one turn more, at the lock of the worker's leaf, which it had found taken so often. When the turn began the worker
-- held each slot so often. In the turn the leaf gave back just that, by puts that are done, and made no other call, by these steps.
-- What the leaf has then seen is legal, begins with all that it had seen in any turn of this pass, and leaves the worker nothing
pub record GaveAllBack (row : RowIs) (worker : ℕ) (old new : Pass) : Type 0 where
  pub missed : ℕ
  pub before : List SeatAnswer
  pub after : List SeatAnswer
  pub steps : List AtomicStep
  pub counts : List ℕ
  pub turned : new ≡ with_turns (with_misses old worker missed) (turn worker before after steps ∷ [])
  pub held : get_elem? (table_after row.world before).rows worker ≡ some counts
  pub begins : StartsWith after before
  pub own : own_answers (name_is.Leaf worker) after ≡ own_answers (name_is.Leaf worker) before ++ puts_below worker counts (slots row.world)
  pub legal : IsLegal row.world.catalogue row.world.workers (answers_in after)
  pub none_left : HoldsNone worker 0 (slots row.world) (table_after row.world after)
  pub follows : Follows old worker before

-- this is the first slot from a place on that the worker holds, so often; or it holds none from there on
abbrev pub IsFirstHeld : RowIs → ℕ → ℕ → Option Holding → Table → Type 0
IsFirstHeld row worker place None t = HoldsNone worker place (slots row.world) t
IsFirstHeld row worker place (Some found) t =
    (place ≤ found.slot) × (found.slot < slots row.world) × (0 < found.count) × HoldsSoOften worker found.slot found.count t
    × HoldsNone worker place found.slot t

-- the same of a leaf
abbrev pub HasFirst : RowIs → Seated → ℕ → Option Holding → Type 0
HasFirst row leaf place None = HasNone leaf place (slots row.world)
HasFirst row leaf place (Some found) =
    (place ≤ found.slot) × (found.slot < slots row.world) × (0 < found.count) × (count_of leaf.view found.slot ≡ found.count)
    × HasNone leaf place found.slot

-- a call of a worker's leaf that names no slot, with so many tries of its lock
abbrev pub WorkerEnded : {R : Type 0} → ℕ → ℕ → (R → Type 0) → CallerIs → Attempt R → CallerIs → Type 0
WorkerEnded worker tries Did before ended after =
    Ended ((row_of before).world.workers ≤ worker) (worker < (row_of before).world.workers) (LeafMissed worker tries before after) ⊥ Did before ended after

-- in one turn the worker's leaf gave back all that the worker held, and the caller did nothing else
abbrev pub LeafGaveAllBack : ℕ → CallerIs → CallerIs → Type 0
LeafGaveAllBack worker before after =
    GaveAllBack (row_of before) worker before.leaves.pass after.leaves.pass × (after.book ≡ before.book)
