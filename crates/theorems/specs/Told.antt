-- Two managed calls, of which the second was begun when a reader had told of the first.
use Rattle.std.specs.Prelude.{◌≡◌, ℕ, List, [], ◌∷◌, ◌++◌}
use Rattle.dep_index.specs.declared.table.calls.Call.{Call}
use Rattle.dep_index.specs.declared.table.calls.Call.TheVariants.{Get}
use Rattle.dep_index.specs.declared.table.calls.Reply.{Reply}
use Rattle.dep_index.specs.declared.table.calls.Reply.TheVariants.{Done, NotLive}
use Rattle.root_row.specs.declared.view.SeatAnswer.{SeatAnswer}
use Rattle.root_row.specs.declared.view.View.{View}
use Rattle.root_row.specs.Seats.{RowIs}
use Rattle.root_row.specs.History.{seat_answer, answers_in, own_answers, StartsWith}
use Rattle.root_row.specs.Views.{name_of, part_of, seen_of}
use Rattle.managed_table.specs.Callers.{CallerIs}
use Rattle.managed_table.specs.Hearing.{Met}
use Rattle.managed_table.specs.declared.view.Turn.{Turn}
use Rattle.theorems.specs.Safety.{NotLiveAgain}
use Rattle.theorems.specs.Managed.{seat_for, lock_of, here, elsewhere, past_turn, WasMadeOnce}

-- The caller had one turn more, at the lock of the call's seat, which it had found taken so often, and did nothing else. The seat made
-- no call in it
pub record MadeNone (call : Call) (old new : CallerIs) : Type 0 where
  pub missed : ℕ
  pub turn : Turn
  pub turned : (here (seat_for call) new).pass ≡ past_turn call old missed turn
  pub there : turn.lock ≡ lock_of (seat_for call)
  pub elsewhere : elsewhere (seat_for call) new ≡ elsewhere (seat_for call) old
  pub none : own_answers (seat_for call) turn.after ≡ own_answers (seat_for call) turn.before

-- it is the same reader, and it has asked nothing more
abbrev pub AskedNothing : View → View → Type 0
AskedNothing old new =
    (part_of new ≡ part_of old) × (own_answers (name_of (part_of old)) (seen_of new) ≡ own_answers (name_of (part_of old)) (seen_of old))

-- The call was made once. Then a reader was told: what it has seen begins with what it had seen, and with the history of the call
pub record MadeAndTold (row : RowIs) (call : Call) (reply : Reply) (old new : CallerIs) (reader reader' : View) : Type 0 where
  pub between : CallerIs
  pub made : WasMadeOnce row call reply old between
  pub meeting : MadeNone call between new
  pub told : StartsWith (seen_of reader') made.after
  pub kept : StartsWith (seen_of reader') (seen_of reader)

-- The call was made once, after all that the reader had seen
pub record HeardAndMade (row : RowIs) (call : Call) (reply : Reply) (old new : CallerIs) (reader : View) : Type 0 where
  pub between : CallerIs
  pub meeting : MadeNone call old between
  pub made : WasMadeOnce row call reply between new
  pub heard : StartsWith made.before (seen_of reader)

-- Both calls were made once. The history of the second is that of the first, then calls of others, then the second call
pub record WereMadeInOrder (row : RowIs) (first : Call) (reply : Reply) (old new : CallerIs)
    (second : Call) (reply' : Reply) (old' new' : CallerIs) : Type 0 where
  pub told : CallerIs
  pub one : WasMadeOnce row first reply old told
  pub telling : MadeNone first told new
  pub heard : CallerIs
  pub hearing : MadeNone second old' heard
  pub other : WasMadeOnce row second reply' heard new'
  pub since : List SeatAnswer
  pub order : other.after ≡ (one.after ++ since) ++ seat_answer (seat_for second) second reply' ∷ []

-- If this removal of the slot was answered Ok, the get is answered NotLive, unless the module was live again between the two
abbrev pub FindsItGone : RowIs → Call → ℕ → ℕ → Reply → Reply → CallerIs → CallerIs → CallerIs → CallerIs → Type 0
FindsItGone row removal slot worker reply get old new old' new' =
    reply ≡ Done
    → (t : WereMadeInOrder row removal reply old new (Get worker slot) get old' new')
    × (NotLiveAgain slot (answers_in t.since) → get ≡ NotLive)

-- the seat that makes the call, and the reader, heard of each other in one turn of the caller
abbrev pub MetAt : RowIs → Call → CallerIs → CallerIs → View → View → Type 0
MetAt row call old new = Met row (lock_of (seat_for call)) (seat_for call) (here (seat_for call) old).pass (here (seat_for call) new).pass
