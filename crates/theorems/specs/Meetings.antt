-- What workers on threads know of one another.
use Rattle.std.specs.Prelude.{◌≡◌, ℕ, List, [], ◌∷◌, ◌++◌}
use Rattle.dep_index.specs.declared.table.calls.Call.{Call}
use Rattle.dep_index.specs.declared.table.calls.Reply.{Reply}
use Rattle.dep_index.specs.declared.table.calls.Reply.TheVariants.{Done}
use Rattle.dep_index.specs.Table.{pairs, users}
use Rattle.dep_index.specs.History.{Answer, IsLegal}
use Rattle.root_row.specs.declared.view.View.{View}
use Rattle.root_row.specs.declared.view.SeatAnswer.{SeatAnswer}
use Rattle.root_row.specs.declared.view.SeatName.TheVariants.{Leaf, Book}
use Rattle.root_row.specs.History.{SeatName, seat_answer, answers_in, own_answers}
use Rattle.root_row.specs.Views.{seen_of, worker_of}
use Rattle.theorems.specs.Safety.{RemovesUnheld, GetsNoneAfter, CancelsKeepReferences, table_at}

abbrev pub history_of : View → List Answer
history_of v = answers_in (seen_of v)

-- the calls of a worker, and what they were answered, in all that a seat has seen
abbrev pub calls_by : ℕ → View → List SeatAnswer
calls_by w v = own_answers (Leaf w) (seen_of v)

-- A seat's call was answered. What the seat has seen grew by calls of others, and ends with this one. It is legal, so
-- removals are safe in it.
pub record IsAnswered (old : View) (by : SeatName) (call : Call) (reply : Reply) (new : View) : Type 0 where
  pub others : List SeatAnswer
  pub ends : seen_of new ≡ (seen_of old ++ others) ++ seat_answer by call reply ∷ []
  pub own : own_answers by (seen_of new) ≡ own_answers by (seen_of old) ++ seat_answer by call reply ∷ []
  pub legal : IsLegal new.world.catalogue new.world.workers (history_of new)
  pub unheld : RemovesUnheld new.world.catalogue new.world.workers (history_of new)
  pub none_after : GetsNoneAfter (history_of new)
  pub called_off : CancelsKeepReferences new.world.catalogue new.world.workers (history_of new)

abbrev pub LeafIsAnswered : View → Call → Reply → View → Type 0
LeafIsAnswered old call reply new = IsAnswered old (Leaf (worker_of old)) call reply new

abbrev pub BookIsAnswered : View → Call → Reply → View → Type 0
BookIsAnswered old call reply new = IsAnswered old Book call reply new

-- a removal that was answered Ok found no reference and no user in all that was seen before it
pub record FoundUnused (call : Call) (m : ℕ) (new : View) : Type 0 where
  pub before : List Answer
  pub ends : history_of new ≡ before ++ record { call = call; reply = Done } ∷ []
  pub unheld : pairs (table_at new.world.catalogue new.world.workers before).rows m ≡ 0
  pub unneeded : users new.world.catalogue (table_at new.world.catalogue new.world.workers before).book m ≡ []
