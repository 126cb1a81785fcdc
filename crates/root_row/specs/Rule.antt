-- The rule of the row: there is one legal history, of which each seat has seen a beginning, and the words show the table after it.
use Rattle.std.specs.Prelude.{◌≡◌, ℕ, ◌<◌, ◌⊎◌, List, [], length, slice_index}
use mathlib.Core.Option.{some}
use lib.ListN.{get_elem?}
use Rattle.atomic_table.specs.Table as table
use Rattle.dep_index.specs.Table.{Table}
use Rattle.dep_index.specs.History.{IsLegal}
use Rattle.dep_index.specs.Words.{word_of, closed}
use Rattle.root_row.specs.declared.view.World.{World}
use Rattle.root_row.specs.declared.view.SeatName.TheVariants as name_is
use Rattle.root_row.specs.declared.view.Part.TheVariants as part_is
use Rattle.root_row.specs.declared.view.SeatAnswer.{SeatAnswer}
use Rattle.root_row.specs.declared.view.Member.{Member}
use Rattle.root_row.specs.declared.view.View.{View}
use Rattle.root_row.specs.World.{slots, place_of, word_count}
use Rattle.root_row.specs.History.{SeatName, answers_in, table_after, AreOfTheirSeats, own_answers, StartsWith}
use Rattle.root_row.specs.Views.{Part, name_of}

-- a part is the table's: a leaf's counts are its worker's row, and the book is the book
abbrev pub Agrees : Table → Part → Type 0
Agrees t (part_is.Leaf w row) = get_elem? t.rows w ≡ some row
Agrees t (part_is.Reader r) = Unit {0}
Agrees t (part_is.Book book) = t.book ≡ book

-- where each name stands: its seat, and its place among the seat's members
abbrev pub Owner : Type 0
Owner = SeatName → ℕ × ℕ

-- a member of the seat j, at the place k: it has seen a beginning of the history with all its own answers there, its
-- part is the table's after the history, and its name stands nowhere else
pub record FitsMember (world : World) (history : List SeatAnswer) (owner : Owner) (v : View) (j k : ℕ) (x : Member) : Type 0 where
  pub same_world : v.world ≡ world
  pub begins : StartsWith history x.seen
  pub own : own_answers (name_of x.part) history ≡ own_answers (name_of x.part) x.seen
  pub agrees : Agrees (table_after world history) x.part
  pub one : owner (name_of x.part) ≡ (j, k)

-- each member of the seat j fits
abbrev pub Fits : World → List SeatAnswer → Owner → ℕ → View → Type 0
Fits world history owner j v =
    (k : ℕ) (x : Member) → get_elem? v.members k ≡ some x → FitsMember world history owner v j k x

-- the member stands at this place
abbrev pub IsAt : List View → ℕ × ℕ → Member → Type 0
IsAt views p x = (v : View) × (get_elem? views p.0 ≡ some v) × (get_elem? v.members p.1 ≡ some x)

-- some seat has seen the whole history
abbrev pub IsSeen : List SeatAnswer → List View → Type 0
IsSeen history views = (p : ℕ × ℕ) × (x : Member) × IsAt views p x × (x.seen ≡ history)

-- the table has a part of this name: a leaf of each worker, and the book
abbrev pub IsOfTable : World → SeatName → Type 0
IsOfTable world (name_is.Leaf w) = w < world.workers
IsOfTable world (name_is.Reader r) = ⊥
IsOfTable world name_is.Book = Unit {0}

-- each leaf and the book stand among the views
abbrev pub HasAll : World → List View → Owner → Type 0
HasAll world views owner = (n : SeatName) → IsOfTable world n → (x : Member) × IsAt views (owner n) x × (name_of x.part ≡ n)

-- The rule. One history for all seats: it is legal, and some seat has seen the whole of it or it is empty. Each leaf and
-- the book are among the views, and what each seat knows fits the history. Each slot's word, at its place, is the
-- one that belongs to it in the table after the history
pub record RowRule (world : World) (s : table.State (Unit {0}) View) : Type 0 where
  pub history : List SeatAnswer
  pub owner : Owner
  pub few : world.workers < closed
  pub legal : IsLegal world.catalogue world.workers (answers_in history)
  pub callers : AreOfTheirSeats history
  pub whole : (history ≡ []) ⊎ IsSeen history s.views
  pub seats : (j : ℕ) (v : View) → get_elem? s.views j ≡ some v → Fits world history owner j v
  pub there : HasAll world s.views owner
  pub wide : length s.words ≡ word_count world
  pub spare : slice_index s.words 0 ≡ closed
  pub words : (m : ℕ) → m < slots world → slice_index s.words (place_of m) ≡ word_of (table_after world history) m
