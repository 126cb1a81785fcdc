-- Histories of a row: calls with what they were answered, each with the seat that made it.
use Rattle.std.specs.Prelude.{◌≡◌, Bool, true, false, IsTrue, ◌==◌, List, ◌++◌, filter, map, All}
use Rattle.dep_index.specs.declared.table.calls.Call.{Call}
use Rattle.dep_index.specs.declared.table.calls.Call.TheVariants.{Get, Put, InUse as Query}
use Rattle.dep_index.specs.declared.table.calls.Reply.{Reply}
use Rattle.dep_index.specs.Table.{Table}
use Rattle.dep_index.specs.History as history
use Rattle.dep_index.specs.History.{Answer}
use Rattle.root_row.specs.declared.view.World.{World}
use Rattle.root_row.specs.declared.view.SeatName as seat_name
use Rattle.root_row.specs.declared.view.SeatName.TheVariants.{Leaf, Reader, Book}
use Rattle.root_row.specs.declared.view.SeatAnswer.{SeatAnswer}

abbrev pub SeatName : Type 0
SeatName = seat_name.SeatName

abbrev pub seat_answer : SeatName → Call → Reply → SeatAnswer
seat_answer by call reply = record { by = by; call = call; reply = reply }

-- a call and its reply, without the seat
abbrev pub answer_of : SeatAnswer → Answer
answer_of a = record { call = a.call; reply = a.reply }

abbrev pub answers_in : List SeatAnswer → List Answer
answers_in seen = map answer_of seen

-- the one-thread table after a history
abbrev pub table_after : World → List SeatAnswer → Table
table_after world seen = history.table_after world.catalogue world.workers (answers_in seen)

-- a leaf makes its worker's gets and puts, a reader makes queries, and the book makes all other calls
abbrev pub makes : SeatName → Call → Bool
makes (Leaf w) (Get v m) = v == w
makes (Leaf w) (Put v m) = v == w
makes (Leaf w) _ = false
makes (Reader r) (Query m) = true
makes (Reader r) _ = false
makes Book (Get v m) = false
makes Book (Put v m) = false
makes Book (Query m) = false
makes Book _ = true

-- each call is one that its seat makes
abbrev pub AreOfTheirSeats : List SeatAnswer → Type 0
AreOfTheirSeats seen = All (λ (a : SeatAnswer). IsTrue (makes a.by a.call)) seen

abbrev pub same_name : SeatName → SeatName → Bool
same_name (Leaf w) (Leaf v) = w == v
same_name (Reader w) (Reader v) = w == v
same_name Book Book = true
same_name _ _ = false

-- a seat's own answers in a history
abbrev pub own_answers : SeatName → List SeatAnswer → List SeatAnswer
own_answers by seen = filter (λ (a : SeatAnswer). same_name a.by by) seen

-- the second list is a beginning of the first
abbrev pub StartsWith : List SeatAnswer → List SeatAnswer → Type 0
StartsWith history seen = (rest : List SeatAnswer) × (history ≡ seen ++ rest)
