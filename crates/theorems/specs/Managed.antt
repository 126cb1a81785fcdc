-- What one managed call was.
use Rattle.std.specs.Prelude.{◌≡◌, ℕ, List, [], ◌∷◌, ◌++◌}
use mathlib.Core.Option as core
use lib.ListN.{get_elem?}
use Rattle.dep_index.specs.declared.table.calls.Call.{Call}
use Rattle.dep_index.specs.declared.table.calls.Call.TheVariants.{Get, Put, InUse, BeginLoad, EndLoad, BeginDrain, BeginRemove, EndRemove, CancelRemove}
use Rattle.dep_index.specs.declared.table.calls.Reply.{Reply}
use Rattle.dep_index.specs.declared.table.calls.Reply.TheVariants.{Done}
use Rattle.dep_index.specs.Table.{pairs, users}
use Rattle.dep_index.specs.History.{Answer, IsLegal}
use Rattle.root_row.specs.declared.view.SeatAnswer.{SeatAnswer}
use Rattle.root_row.specs.declared.view.AtomicStep.{AtomicStep}
use Rattle.root_row.specs.declared.view.SeatName.TheVariants.{Leaf, Book}
use Rattle.root_row.specs.Seats.{RowIs}
use Rattle.root_row.specs.History.{SeatName, seat_answer, answers_in, own_answers, StartsWith}
use Rattle.managed_table.specs.Callers.{CallerIs, PassIs}
use Rattle.managed_table.specs.Turns.{turn, with_turns, with_misses}
use Rattle.managed_table.specs.declared.view.Turn.{Turn}
use Rattle.managed_table.specs.declared.view.Pass.{Pass}
use Rattle.theorems.specs.Safety.{RemovesUnheld, GetsNoneAfter, CancelsKeepReferences, table_at}

-- which seat makes a call: the leaf of its worker, or the book
abbrev pub seat_for : Call → SeatName
seat_for (Get w m) = Leaf w
seat_for (Put w m) = Leaf w
seat_for (InUse m) = Book
seat_for (BeginLoad m) = Book
seat_for (EndLoad m ok) = Book
seat_for (BeginDrain m) = Book
seat_for (BeginRemove m) = Book
seat_for (EndRemove m) = Book
seat_for (CancelRemove m) = Book

abbrev pub lock_of : SeatName → ℕ
lock_of (Leaf w) = w
lock_of other = 0

-- what a caller has done at the locks of these seats, and at the others
abbrev pub here : SeatName → CallerIs → PassIs
here (Leaf w) caller = caller.leaves
here other caller = caller.book

abbrev pub elsewhere : SeatName → CallerIs → PassIs
elsewhere (Leaf w) caller = caller.book
elsewhere other caller = caller.leaves

abbrev pub turns_of : Call → CallerIs → List Turn
turns_of call caller = (here (seat_for call) caller).pass.turns

-- what a caller has done at the call's lock, when it had found that lock taken so often more, and then had this turn
abbrev pub past_turn : Call → CallerIs → ℕ → Turn → Pass
past_turn call caller missed turn = with_turns (with_misses (here (seat_for call) caller).pass (lock_of (seat_for call)) missed) (turn ∷ [])

-- The caller had one turn more, at the lock of the call's seat, which it had found taken so often. It did nothing else: so no further
-- caller came from it, by whom another call could have been made. Before that turn the seat had seen this much; then others made
-- these calls, and the seat made this one, once, by these steps, which was answered so. All that is legal, so removals are safe in
-- it, and it begins with what each earlier turn of the caller at this lock had seen.
pub record WasMadeOnce (row : RowIs) (call : Call) (reply : Reply) (old new : CallerIs) : Type 0 where
  pub missed : ℕ
  pub before : List SeatAnswer
  pub others : List SeatAnswer
  pub after : List SeatAnswer
  pub steps : List AtomicStep
  pub turned : (here (seat_for call) new).pass ≡ past_turn call old missed (turn (lock_of (seat_for call)) before after steps)
  pub elsewhere : elsewhere (seat_for call) new ≡ elsewhere (seat_for call) old
  pub ends : after ≡ (before ++ others) ++ seat_answer (seat_for call) call reply ∷ []
  pub own : own_answers (seat_for call) after ≡ own_answers (seat_for call) before ++ seat_answer (seat_for call) call reply ∷ []
  pub follows : (k : ℕ) (t : Turn) → get_elem? (turns_of call old) k ≡ core.some t → t.lock ≡ lock_of (seat_for call) → StartsWith before t.after
  pub legal : IsLegal row.world.catalogue row.world.workers (answers_in after)
  pub unheld : RemovesUnheld row.world.catalogue row.world.workers (answers_in after)
  pub none_after : GetsNoneAfter (answers_in after)
  pub called_off : CancelsKeepReferences row.world.catalogue row.world.workers (answers_in after)

-- The caller had one turn more, whose history ends with the removal of m. Before it no reference to m was held by any worker, and
-- no module of the table needed it; and in each legal history that begins with it no get of m succeeds until m is live again.
pub record LeftUnused (row : RowIs) (removal : Call) (m : ℕ) (old new : CallerIs) : Type 0 where
  pub turn : Turn
  pub turned : turns_of removal new ≡ turns_of removal old ++ turn ∷ []
  pub before : List Answer
  pub ends : answers_in turn.after ≡ before ++ record { call = removal; reply = Done } ∷ []
  pub unheld : pairs (table_at row.world.catalogue row.world.workers before).rows m ≡ 0
  pub unneeded : users row.world.catalogue (table_at row.world.catalogue row.world.workers before).book m ≡ []
  pub later : (history : List SeatAnswer) → StartsWith history turn.after → IsLegal row.world.catalogue row.world.workers (answers_in history) → GetsNoneAfter (answers_in history)
