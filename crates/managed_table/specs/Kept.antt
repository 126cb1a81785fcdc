-- What lies behind the locks: leaves and the book, as contracts see them.
use Rattle.std.specs.Prelude.{◌≡◌, ℕ, List}
use Rattle.root_row.specs.declared.view.SeatAnswer.{SeatAnswer}
use Rattle.root_row.specs.declared.view.SeatName.TheVariants as name_is
use Rattle.root_row.specs.History.{SeatName}
use Rattle.root_row.specs.Seats.{RowIs, Seated, IsOf}
use Rattle.root_row.specs.Views.{seen_of, worker_of, IsLeaf, IsBook}

abbrev pub seen : Seated → List SeatAnswer
seen x = seen_of x.view

-- a leaf, or the book, as contracts see it
abbrev pub shown : Seated → Seated
shown x = x

abbrev pub leaf_name : ℕ → SeatName
leaf_name lock = name_is.Leaf lock

-- behind a leaf's lock lies the leaf of the lock's own worker, of this row
abbrev pub leaf_fits : RowIs → ℕ → Seated → Type 0
leaf_fits row lock x = IsOf row x × (worker_of x.view ≡ lock) × IsLeaf x.view

abbrev pub book_name : ℕ → SeatName
book_name lock = name_is.Book

-- behind the book's lock lies the book of this row
abbrev pub book_fits : RowIs → ℕ → Seated → Type 0
book_fits row lock x = IsOf row x × IsBook x.view
