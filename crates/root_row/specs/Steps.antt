-- What each step on the row tells the seat that makes it.
use Rattle.std.specs.Prelude.{◌≡◌, ℕ, Bool, ◌==◌, if◌then◌else◌, List, [], ◌∷◌, ◌++◌, MatchBool}
use Rattle.atomic_table.specs.Table.{Me, Step}
use Rattle.dep_index.specs.declared.table.calls.Call.{Call}
use Rattle.dep_index.specs.declared.table.calls.Call.TheVariants as call_is
use Rattle.dep_index.specs.declared.table.calls.Reply.{Reply}
use Rattle.dep_index.specs.declared.table.calls.Reply.TheVariants.{Done, Yes, No}
use Rattle.dep_index.specs.declared.words.Outcome.{Outcome}
use Rattle.dep_index.specs.declared.words.Outcome.TheVariants.{GoesOn}
use Rattle.dep_index.specs.History.{IsLegal}
use Rattle.dep_index.specs.Calls.{row_given}
use Rattle.dep_index.specs.Words.{word_of, get_look, put_step, shows_holders, MatchOutcome}
use Rattle.root_row.specs.declared.calls.LeafCall.{LeafCall}
use Rattle.root_row.specs.declared.calls.LeafCall.TheVariants as leaf_is
use Rattle.root_row.specs.declared.view.Part.TheVariants as part_is
use Rattle.root_row.specs.declared.view.SeatName.TheVariants as name_is
use Rattle.root_row.specs.declared.view.SeatAnswer.{SeatAnswer}
use Rattle.root_row.specs.declared.view.View.{View}
use Rattle.root_row.specs.History.{SeatName, seat_answer, answers_in, table_after, AreOfTheirSeats, own_answers}
use Rattle.root_row.specs.World.{place_of}
use Rattle.root_row.specs.Views.{Part, member, seen_of, worker_of, counts_of, count_of, reader_of}
use Rattle.root_row.specs.Rule.{Agrees}

-- A call was made and answered. What the seat has then seen begins with what it had seen and ends with this call; it is
-- legal, and has of the seat's own answers the old ones and this one. The seat's part is the table's after it
pub record Answered (v : View) (by : SeatName) (call : Call) (answer : Reply) (x : Part) (w : View) : Type 0 where
  pub between : List SeatAnswer
  pub seen : seen_of w ≡ (seen_of v ++ between) ++ seat_answer by call answer ∷ []
  pub legal : IsLegal w.world.catalogue w.world.workers (answers_in (seen_of w))
  pub callers : AreOfTheirSeats (seen_of w)
  pub own : own_answers by (seen_of w) ≡ own_answers by (seen_of v) ++ seat_answer by call answer ∷ []
  pub agrees : Agrees (table_after w.world (seen_of w)) x
  pub same_world : w.world ≡ v.world
  pub members : w.members ≡ member x (seen_of w) ∷ []

-- the word that belongs to the slot m after all that was seen
abbrev pub word_after : View → ℕ → ℕ
word_after w m = word_of (table_after w.world (seen_of w)) m

abbrev pub SeatState : Type 0
SeatState = Me (Unit {0}) View

-- what a step on the word of a slot tells: of its first operand, the slot, the view before, the word found and the view
-- after. The seat takes nothing
abbrev pub AtSlot : (ℕ → ℕ → View → ℕ → View → Type 0) → Step (Unit {0}) → SeatState → ℕ → SeatState → Type 0
AtSlot Tells st me found me' =
    (me'.1 ≡ me.1) × ((m : ℕ) → st.word ≡ place_of m → Tells st.first m me.0 found me'.0)

abbrev pub leaf_call : LeafCall → ℕ → ℕ → Call
leaf_call leaf_is.Get w m = call_is.Get w m
leaf_call leaf_is.Put w m = call_is.Put w m

-- what a look comes to: it goes on if a get finds the slot open and the leaf does not hold it, and if a put gives
-- the last reference back; else the look is the point
abbrev pub leaf_look : LeafCall → ℕ → ℕ → Outcome
leaf_look leaf_is.Get count found = (get_look count found).outcome
leaf_look leaf_is.Put count found = if count == 1 then GoesOn found else (put_step count found).outcome

-- a leaf's call was answered, and its counts are those after the answer
abbrev pub LeafAnswered : View → ℕ → LeafCall → Reply → View → Type 0
LeafAnswered v m kind answer w =
    let call = leaf_call kind (worker_of v) m in
    Answered v (name_is.Leaf (worker_of v)) call answer (part_is.Leaf (worker_of v) (row_given answer (counts_of v) call)) w

-- at a point the call was answered, and the word is the table's; else the view stays
abbrev pub Looked : LeafCall → ℕ → View → ℕ → View → Type 0
Looked kind m v found w =
    MatchOutcome (leaf_look kind (count_of v m) found)
    (λ answer. LeafAnswered v m kind answer w × (found ≡ word_after w m))
    (λ _. w ≡ v)

-- the exchange of an Open word by the next: made, the get is Done; missed, the view stays
abbrev pub TriedArrive : ℕ → View → Bool → View → Type 0
TriedArrive m v made w = MatchBool made (LeafAnswered v m leaf_is.Get Done w) (w ≡ v)

-- a reader's query was answered
abbrev pub ReaderAnswered : View → ℕ → Reply → View → Type 0
ReaderAnswered v m answer w = Answered v (name_is.Reader (reader_of v)) (call_is.InUse m) answer (part_is.Reader (reader_of v)) w

-- a reader's load answers its query by the word, which is the table's
abbrev pub LookedRead : ℕ → View → ℕ → View → Type 0
LookedRead m v found w = ReaderAnswered v m (if shows_holders found then Yes else No) w × (found ≡ word_after w m)
