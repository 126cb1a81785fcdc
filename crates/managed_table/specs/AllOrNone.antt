-- A get of several slots for one worker, in one turn: all or none.
use Rattle.std.specs.Prelude.{◌≡◌, ◌⊎◌, ℕ, zero, suc, ◌+◌, ◌<◌, ◌≤◌, List, [], ◌∷◌, ◌++◌, length, slice_index, slice_set, Option, Some, None, Result, Ok, Err, IfErr, IfNone}
use mathlib.Core.Option.{some}
use lib.ListN.{get_elem?}
use Rattle.dep_index.specs.declared.table.calls.Call.TheVariants.{Get}
use Rattle.dep_index.specs.declared.table.calls.Reply.TheVariants.{Done}
use Rattle.dep_index.specs.declared.table.refusals.GetError.{GetError}
use Rattle.dep_index.specs.History.{IsLegal}
use Rattle.dep_index.specs.Refusals.{get_refusal}
use Rattle.root_row.specs.declared.view.SeatAnswer.{SeatAnswer}
use Rattle.root_row.specs.declared.view.AtomicStep.{AtomicStep}
use Rattle.root_row.specs.declared.view.SeatName.TheVariants as name_is
use Rattle.root_row.specs.History.{seat_answer, answers_in, table_after, own_answers, StartsWith}
use Rattle.root_row.specs.Seats.{RowIs, Seated}
use Rattle.root_row.specs.StepsMade.{StepsMade}
use Rattle.root_row.specs.World.{slots}
use Rattle.use_indicator.specs.Counted as counted
use Rattle.managed_table.specs.declared.attempt.Attempt.{Attempt}
use Rattle.managed_table.specs.declared.all_or_none.NotTaken.{NotTaken}
use Rattle.managed_table.specs.declared.view.Pass.{Pass}
use Rattle.managed_table.specs.Turns.{turn, with_turns, with_misses, Follows}
use Rattle.managed_table.specs.Callers.{CallerIs, LeafMissed}
use Rattle.managed_table.specs.Owned.{row_of}
use Rattle.managed_table.specs.Attempts.{Ended}
use Rattle.managed_table.specs.Holdings.{put_done}

-- a get for the worker that is done
abbrev pub get_done : ℕ → ℕ → SeatAnswer
get_done worker slot = seat_answer (name_is.Leaf worker) (Get worker slot) Done

-- the gets of the first so many of these slots, each done
abbrev pub first_gets : ℕ → List ℕ → ℕ → List SeatAnswer
first_gets worker wanted zero = []
first_gets worker wanted (suc place) = first_gets worker wanted place ++ get_done worker (slice_index wanted place) ∷ []

-- the puts that give these back, the last first
abbrev pub back_puts : ℕ → List ℕ → ℕ → List SeatAnswer
back_puts worker wanted zero = []
back_puts worker wanted (suc place) = put_done worker (slice_index wanted place) ∷ back_puts worker wanted place

-- the get that was refused; none, if it was given up
abbrev pub refused_get : ℕ → ℕ → Option GetError → List SeatAnswer
refused_get worker slot None = []
refused_get worker slot (Some error) = seat_answer (name_is.Leaf worker) (Get worker slot) (get_refusal error) ∷ []

-- what the leaf calls: each get, if all are done; else those before the place, the one that was refused, and each of those back
abbrev pub tried_in_order : ℕ → List ℕ → Result (Unit {0}) NotTaken → List SeatAnswer
tried_in_order worker wanted (Ok _) = first_gets worker wanted (length wanted)
tried_in_order worker wanted (Err failed) =
    (first_gets worker wanted failed.place ++ refused_get worker (slice_index wanted failed.place) failed.refusal) ++ back_puts worker wanted failed.place

-- a worker's row with one reference more to the slot
abbrev pub one_more : List ℕ → ℕ → List ℕ
one_more counts slot = slice_set counts slot (slice_index counts slot + 1)

-- and with one more to each of the first so many of these slots
abbrev pub with_gets : List ℕ → List ℕ → ℕ → List ℕ
with_gets counts wanted zero = counts
with_gets counts wanted (suc place) = one_more (with_gets counts wanted place) (slice_index wanted place)

-- the worker's row afterwards: with all, or as it was
abbrev pub row_left : List ℕ → List ℕ → Result (Unit {0}) NotTaken → List ℕ
row_left counts wanted (Ok _) = with_gets counts wanted (length wanted)
row_left counts wanted (Err _) = counts

-- the leaf has made further steps
abbrev pub MadeSteps : Seated → Seated → Type 0
MadeSteps old new = (steps : List AtomicStep) × StepsMade old steps new

-- among these steps are so many tries of the slot's word, one after the other, and each was missed
abbrev pub HasMisses : ℕ → ℕ → List AtomicStep → Type 0
HasMisses tries slot steps =
    (first : List AtomicStep) × (found : List ℕ) × (last : List AtomicStep) × (length found ≡ tries) × (steps ≡ first ++ (counted.missed slot found ++ last))

-- if a get was not refused but given up, the worker held no reference to its slot by then, and each try was missed
abbrev pub WasGivenUp : ℕ → List ℕ → List ℕ → List AtomicStep → NotTaken → Type 0
WasGivenUp tries counts wanted steps failed =
    IfNone failed.refusal ((slice_index (with_gets counts wanted failed.place) (slice_index wanted failed.place) ≡ 0) × HasMisses tries (slice_index wanted failed.place) steps)

-- The pass made one turn more, at the lock of the worker's leaf, which it had found taken so often. In the turn the leaf made these
-- calls and no other, by these steps. What it has then seen is legal, and begins with all that it had seen in any turn of this pass.
-- The worker holds one reference more to each of the slots, or as many as before
pub record TookAllOrNone (row : RowIs) (worker : ℕ) (wanted : List ℕ) (tries : ℕ) (taken : Result (Unit {0}) NotTaken) (old new : Pass) : Type 0 where
  pub missed : ℕ
  pub before : List SeatAnswer
  pub after : List SeatAnswer
  pub steps : List AtomicStep
  pub counts : List ℕ
  pub turned : new ≡ with_turns (with_misses old worker missed) (turn worker before after steps ∷ [])
  pub held : get_elem? (table_after row.world before).rows worker ≡ some counts
  pub begins : StartsWith after before
  pub own : own_answers (name_is.Leaf worker) after ≡ own_answers (name_is.Leaf worker) before ++ tried_in_order worker wanted taken
  pub legal : IsLegal row.world.catalogue row.world.workers (answers_in after)
  pub left : get_elem? (table_after row.world after).rows worker ≡ some (row_left counts wanted taken)
  pub place : IfErr taken (λ failed. failed.place < length wanted)
  pub given_up : IfErr taken (WasGivenUp tries counts wanted steps)
  pub follows : Follows old worker before

-- each of these slots is below this many
abbrev pub AreBelow : ℕ → List ℕ → Type 0
AreBelow limit wanted = (place : ℕ) → place < length wanted → slice_index wanted place < limit

-- one of them is not
abbrev pub IsOneBeyond : ℕ → List ℕ → Type 0
IsOneBeyond limit wanted = (place : ℕ) × (place < length wanted) × (limit ≤ slice_index wanted place)

-- the worker's leaf did so in one turn, and the caller did nothing else
abbrev pub LeafTookAllOrNone : ℕ → List ℕ → ℕ → CallerIs → CallerIs → Result (Unit {0}) NotTaken → Type 0
LeafTookAllOrNone worker wanted tries before after taken =
    TookAllOrNone (row_of before) worker wanted tries taken before.leaves.pass after.leaves.pass × (after.book ≡ before.book)

-- how such a call ended, with so many tries of its lock. OutOfRange: the worker, or one of the slots, is none of the table
abbrev pub AllOrNoneEnded : ℕ → List ℕ → ℕ → CallerIs → Attempt (Result (Unit {0}) NotTaken) → CallerIs → Type 0
AllOrNoneEnded worker wanted tries before ended after =
    Ended (((row_of before).world.workers ≤ worker) ⊎ IsOneBeyond (slots (row_of before).world) wanted)
    ((worker < (row_of before).world.workers) × AreBelow (slots (row_of before).world) wanted)
    (LeafMissed worker tries before after) ⊥ (LeafTookAllOrNone worker wanted tries before after) before ended after
