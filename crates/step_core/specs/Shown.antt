-- The table that a state of the machine shows.
use Rattle.std.specs.Prelude.{◌≡◌, ◌≢◌, ℕ, List, [], ◌∷◌, slice_index_or, Option, Some, None}
use Rattle.dep_index.specs.declared.table.calls.Call.{Call}
use Rattle.dep_index.specs.Table.{Book, Table}
use Rattle.dep_index.specs.Calls.{book_effect, row_effect, worker_of}
use Rattle.step_core.specs.declared.steps.Line.{Line}
use Rattle.step_core.specs.declared.steps.Line.TheVariants.{Write}
use Rattle.step_core.specs.declared.steps.Activity.{Activity}
use Rattle.step_core.specs.Machine.{State, activity}

-- the call that a thread at this line is about to write
abbrev pub writing_at : Line → Call → Option Call
writing_at Write call = Some call
writing_at _ call = None

abbrev pub writing : Option Activity → Option Call
writing None = None
writing (Some a) = writing_at a.line a.call

-- the write that the holder of a lock is about to make
abbrev pub pending : List (Option Activity) → Option ℕ → Option Call
pending threads None = None
pending threads (Some t) = writing (slice_index_or threads t None)

abbrev pub book_after : Option Call → Book → Book
book_after None book = book
book_after (Some call) book = book_effect book call

abbrev pub row_after : Option Call → List ℕ → List ℕ
row_after None row = row
row_after (Some call) row = row_effect row call

abbrev pub rows_after : List (Option Activity) → List (Option ℕ) → List (List ℕ) → List (List ℕ)
rows_after threads locks [] = []
rows_after threads [] (row ∷ rows) = row ∷ rows
rows_after threads (lock ∷ locks) (row ∷ rows) =
    row_after (pending threads lock) row ∷ rows_after threads locks rows

-- the table that a state shows: what is written, with every pending write done
abbrev pub shown : State → Table
shown state =
    record {
      book = book_after (pending state.threads state.locks.table) state.written.book;
      rows = rows_after state.threads state.locks.leaves state.written.rows;
    }

abbrev pub shown_row : State → ℕ → List ℕ
shown_row state w = slice_index_or (shown state).rows w []

abbrev pub written_row : State → ℕ → List ℕ
written_row state w = slice_index_or state.written.rows w []

-- what the thread is about to write
abbrev pub writes_next : State → ℕ → Option Call
writes_next state t = writing (activity state t)

-- the shown table is the written one with every pending write done: a write is pending while a thread
-- stands at the line that makes it
pub record ShowsPendingWrites (state : State) : Type 0 where
  -- a get or a put that is about to be written shows in its worker's row
  pub row : (t w : ℕ) (call : Call) → writes_next state t ≡ Some call → worker_of call ≡ Some w
      → shown_row state w ≡ row_effect (written_row state w) call
  -- every other call shows in the book
  pub book : (t : ℕ) (call : Call) → writes_next state t ≡ Some call → worker_of call ≡ None
      → (shown state).book ≡ book_effect state.written.book call
  -- what no thread is about to write is shown as it is written
  pub still_row : (w : ℕ) → ((t : ℕ) (call : Call) → writes_next state t ≡ Some call → worker_of call ≢ Some w)
      → shown_row state w ≡ written_row state w
  pub still_book : ((t : ℕ) (call : Call) → writes_next state t ≡ Some call → worker_of call ≢ None)
      → (shown state).book ≡ state.written.book
