-- The turns of a pass.
use Rattle.std.specs.Prelude.{◌≡◌, ◌⊎◌, ℕ, ◌+◌, ◌-◌, ◌==◌, List, [], ◌∷◌, ◌++◌, replicate, length, drop, Option, Some, None, MatchBool}
use mathlib.Core.Option as core
use lib.ListN.{get_elem?}
use Rattle.atomic_table.specs.Table.{Me, Step}
use Rattle.dep_index.specs.declared.table.calls.Call.{Call}
use Rattle.dep_index.specs.declared.table.calls.Reply.{Reply}
use Rattle.dep_index.specs.History.{IsLegal}
use Rattle.dep_index.specs.Table.{Table}
use Rattle.root_row.specs.declared.view.SeatAnswer.{SeatAnswer}
use Rattle.root_row.specs.declared.view.AtomicStep.{AtomicStep}
use Rattle.root_row.specs.Seats.{RowIs, Seated}
use Rattle.root_row.specs.World.{place_of}
use Rattle.root_row.specs.History.{SeatName, seat_answer, answers_in, table_after, own_answers, StartsWith}
use Rattle.managed_table.specs.declared.view.Turn.{Turn}
use Rattle.managed_table.specs.declared.view.Taken.{Taken}
use Rattle.managed_table.specs.declared.view.Pass.{Pass}
use Rattle.managed_table.specs.declared.view.Passes.{Passes}
use Rattle.managed_table.specs.Kept.{seen}

abbrev pub turn : ℕ → List SeatAnswer → List SeatAnswer → List AtomicStep → Turn
turn lock before after steps = record { lock = lock; before = before; after = after; steps = steps }

abbrev pub taken : ℕ → List SeatAnswer → List AtomicStep → Taken
taken lock before steps = record { lock = lock; before = before; steps = steps }

-- the steps that the seat made after these
abbrev pub since : List AtomicStep → Seated → List AtomicStep
since steps x = drop (length steps) x.steps

-- a view of one pass
abbrev pub alone : Pass → Passes
alone p = record { passes = p ∷ [] }

abbrev pub no_row : RowIs
no_row = record {
  id = record { words = 0; slots = 0; views_name = 0; atom = 0; block = 0; offset = 0; slot_names = [] };
  world = record { catalogue = []; workers = 0 };
}

abbrev pub no_seat : Seated
no_seat = record { row = no_row.id; view = record { world = no_row.world; members = [] }; steps = [] }

abbrev pub no_pass : Pass
no_pass = record { row = record { marker = record {}; value = no_row }; name = []; further = 0; taken = None; turns = []; missed = [] }

abbrev pub first_in : List Pass → Pass
first_in [] = no_pass
first_in (p ∷ ps) = p

-- a caller's pass
abbrev pub pass_of : Passes → Pass
pass_of v = first_in v.passes

-- the name of a pass: the first one's is empty; a further one's is its number among those of its parent, before the parent's name
abbrev pub PassName : Type 0
PassName = List ℕ

-- a pass of this name that has done nothing, and from which no further one came
abbrev pub new_pass : RowIs → PassName → Pass
new_pass row name = record { row = record { marker = record {}; value = row }; name = name; further = 0; taken = None; turns = []; missed = [] }

-- one further pass came from the pass
abbrev pub with_further : Pass → Pass
with_further p = record { row = p.row; name = p.name; further = p.further + 1; taken = p.taken; turns = p.turns; missed = p.missed }

-- the last further pass has gone back
abbrev pub without_further : Pass → Pass
without_further p = record { row = p.row; name = p.name; further = p.further - 1; taken = p.taken; turns = p.turns; missed = p.missed }

-- that further pass
abbrev pub further_of : Pass → Pass
further_of p = new_pass p.row.value (p.further ∷ p.name)

-- the pass has taken the lock
abbrev pub with_taken : Pass → Option Taken → Pass
with_taken p t = record { row = p.row; name = p.name; further = p.further; taken = t; turns = p.turns; missed = p.missed }

-- the pass has had these turns more, and has no lock
abbrev pub with_turns : Pass → List Turn → Pass
with_turns p more = record { row = p.row; name = p.name; further = p.further; taken = None; turns = p.turns ++ more; missed = p.missed }

-- the pass has found these locks taken
abbrev pub with_missed : Pass → List ℕ → Pass
with_missed p locks = record { row = p.row; name = p.name; further = p.further; taken = p.taken; turns = p.turns; missed = locks }

-- the pass has found the lock taken so often more
abbrev pub with_misses : Pass → ℕ → ℕ → Pass
with_misses p lock times = with_missed p (replicate times lock ++ p.missed)

abbrev pub turn_of : Option Taken → Seated → List Turn
turn_of None x = []
turn_of (Some t) x = turn t.lock t.before (seen x) (since t.steps x) ∷ []

-- what was seen begins with what each turn at this lock had seen
abbrev pub Follows : Pass → ℕ → List SeatAnswer → Type 0
Follows p lock seen = (k : ℕ) (t : Turn) → get_elem? p.turns k ≡ core.some t → t.lock ≡ lock → StartsWith seen t.after

-- when the second turn began, all was seen that had been seen when the first ended
abbrev pub IsBefore : Turn → Turn → Type 0
IsBefore t u = StartsWith u.before t.after

abbrev pub AreOrdered : Turn → Turn → Type 0
AreOrdered t u = IsBefore t u ⊎ IsBefore u t

-- the value is out with the pass, which had found the lock taken so often, and has made these steps since
pub record HasTaken {T : Type 0} (fits : RowIs → ℕ → T → Type 0) (shown : T → Seated)
    (lock : ℕ) (made : List AtomicStep) (p : Pass) (me : Me T Passes) : Type 0 where
  pub value : T
  pub missed : ℕ
  pub steps : List AtomicStep
  pub view : me.0 ≡ alone (with_taken (with_misses p lock missed) (Some (taken lock (seen (shown value)) steps)))
  pub steps_are : (shown value).steps ≡ steps ++ made
  pub hand : me.1 ≡ (lock, value) ∷ []
  pub fit : fits p.row.value lock value
  pub follows : Follows p lock (seen (shown value))

module _ {T : Type 0} where
  abbrev pub IsSame : Me T Passes → Me T Passes → Type 0
  IsSame me me' = (me'.0 ≡ me.0) × (me'.1 ≡ me.1)

  -- the lock was found taken so often, and nothing else changed
  abbrev pub Misses : ℕ → ℕ → Me T Passes → Me T Passes → Type 0
  Misses lock times me me' = (me'.0 ≡ alone (with_misses (pass_of me.0) lock times)) × (me'.1 ≡ me.1)

  -- if the word is 0 nothing is known; else the lock was found taken
  abbrev pub Looks : Step T → Me T Passes → ℕ → Me T Passes → Type 0
  Looks st me found me' = (lock : ℕ) → st.word ≡ place_of lock → MatchBool (found == 0) (IsSame me me') (Misses lock 1 me me')

  -- if the word was 0 the lock is taken; else it was found taken
  abbrev pub Seizes : (RowIs → ℕ → T → Type 0) → (T → Seated) → Step T → Me T Passes → ℕ → Me T Passes → Type 0
  Seizes fits shown st me found me' =
      (lock : ℕ) → st.word ≡ place_of lock → MatchBool (found == 0) (HasTaken fits shown lock [] (pass_of me.0) me') (Misses lock 1 me me')

  abbrev pub shown_in_hand : (T → Seated) → List (ℕ × T) → Seated
  shown_in_hand shown [] = no_seat
  shown_in_hand shown (x ∷ xs) = shown x.1

  -- the view after the turn
  abbrev pub after_turn : (T → Seated) → Me T Passes → Passes
  after_turn shown me = alone (with_turns (pass_of me.0) (turn_of (pass_of me.0).taken (shown_in_hand shown me.1)))

  -- the turn is over
  abbrev pub Releases : (T → Seated) → Step T → Me T Passes → ℕ → Me T Passes → Type 0
  Releases shown st me found me' = (me'.0 ≡ after_turn shown me) × (me'.1 ≡ [])

  -- if the word was the number that is subtracted, the turn is over; else nothing is known
  abbrev pub LetsGo : (T → Seated) → Step T → Me T Passes → ℕ → Me T Passes → Type 0
  LetsGo shown st me found me' = MatchBool (found == st.first) (Releases shown st me found me') (IsSame me me')

-- The pass made one turn more, at this lock, which it had found taken so often: it took the value, did so with it, and put it back
pub record MadeTurn {T : Type 0} (fits : RowIs → ℕ → T → Type 0) (shown : T → Seated)
    (lock : ℕ) (Did : T → T → Type 0) (old new : Pass) : Type 0 where
  pub missed : ℕ
  pub taken : T
  pub left : T
  pub turned : new ≡ with_turns (with_misses old lock missed) (turn lock (seen (shown taken)) (seen (shown left)) (since (shown taken).steps (shown left)) ∷ [])
  pub fit : fits old.row.value lock taken
  pub did : Did taken left
  pub follows : Follows old lock (seen (shown taken))

-- The pass made one turn more, at this lock, which it had found taken so often. In it the seat behind the lock made this one call,
-- by these steps, and was answered so. What the seat has then seen is legal, begins with all that it had seen in any turn of this
-- pass, and ends with the call
pub record MadeOneCall (row : RowIs) (lock : ℕ) (by : SeatName) (call : Call) (reply : Reply) (old new : Pass) : Type 0 where
  pub missed : ℕ
  pub before : List SeatAnswer
  pub between : List SeatAnswer
  pub after : List SeatAnswer
  pub steps : List AtomicStep
  pub turned : new ≡ with_turns (with_misses old lock missed) (turn lock before after steps ∷ [])
  pub ends : after ≡ (before ++ between) ++ seat_answer by call reply ∷ []
  pub legal : IsLegal row.world.catalogue row.world.workers (answers_in after)
  pub own : own_answers by after ≡ own_answers by before ++ seat_answer by call reply ∷ []
  pub follows : Follows old lock before

-- The pass made one turn more, at this lock, which it had found taken so often. In it the seat behind the lock made these steps, and
-- no call. What it had seen is legal, begins with all that it had seen in any turn of this pass, and leaves this table
pub record MadeNoCall (row : RowIs) (lock : ℕ) (Shows : Table → Type 0) (old new : Pass) : Type 0 where
  pub missed : ℕ
  pub seen : List SeatAnswer
  pub steps : List AtomicStep
  pub turned : new ≡ with_turns (with_misses old lock missed) (turn lock seen seen steps ∷ [])
  pub legal : IsLegal row.world.catalogue row.world.workers (answers_in seen)
  pub shows : Shows (table_after row.world seen)
  pub follows : Follows old lock seen
