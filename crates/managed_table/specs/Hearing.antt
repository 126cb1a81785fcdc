-- A reader goes from lock to lock, and tells the seat behind each what the earlier ones had seen.
use Rattle.std.specs.Prelude.{◌≡◌, ℕ, List, [], ◌∷◌}
use Rattle.dep_index.specs.History.{IsLegal}
use Rattle.root_row.specs.declared.view.SeatAnswer.{SeatAnswer}
use Rattle.root_row.specs.declared.view.AtomicStep.{AtomicStep}
use Rattle.root_row.specs.declared.view.SeatName.TheVariants as name_is
use Rattle.root_row.specs.declared.view.View.{View}
use Rattle.root_row.specs.History.{SeatName, answers_in, own_answers, StartsWith}
use Rattle.root_row.specs.Seats.{RowIs}
use Rattle.root_row.specs.Views.{name_of, part_of, seen_of}
use Rattle.managed_table.specs.declared.view.Pass.{Pass}
use Rattle.managed_table.specs.Turns.{turn, with_turns, with_misses, Follows}
use Rattle.managed_table.specs.Callers.{ManagedIs, CallerIs}

-- The pass made one turn more, at this lock, which it had found taken so often. In it the seat behind the lock and a reader heard
-- of each other, by these steps of the seat. Both have then seen one list. It is legal, begins with what each had seen, and has of
-- each one's own calls just those that it had
pub record Met (row : RowIs) (lock : ℕ) (by : SeatName) (old new : Pass) (reader reader' : View) : Type 0 where
  pub missed : ℕ
  pub before : List SeatAnswer
  pub after : List SeatAnswer
  pub steps : List AtomicStep
  pub turned : new ≡ with_turns (with_misses old lock missed) (turn lock before after steps ∷ [])
  pub follows : Follows old lock before
  pub begins : StartsWith after before
  pub tells : StartsWith after (seen_of reader)
  pub told : seen_of reader' ≡ after
  pub legal : IsLegal row.world.catalogue row.world.workers (answers_in after)
  pub own : own_answers by after ≡ own_answers by before
  pub reader_own : own_answers (name_of (part_of reader)) after ≡ own_answers (name_of (part_of reader)) (seen_of reader)
  pub same_reader : part_of reader' ≡ part_of reader

-- so met the worker's leaf and the reader
abbrev pub LeafMet : ManagedIs → ℕ → CallerIs → CallerIs → View → View → Type 0
LeafMet table worker old new = Met table.row worker (name_is.Leaf worker) old.leaves.pass new.leaves.pass

-- or the book and the reader
abbrev pub BookMet : ManagedIs → CallerIs → CallerIs → View → View → Type 0
BookMet table old new = Met table.row 0 name_is.Book old.book.pass new.book.pass
