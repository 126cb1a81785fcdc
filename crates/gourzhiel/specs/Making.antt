-- A new table: its book, its leaves and its readers.
use Rattle.std.specs.Prelude.{◌≡◌, ℕ, ◌==◌, nat_lt, true, List, length, map, All, MatchBool}
use Rattle.dep_index.specs.Table.{Module}
use Rattle.dep_index.specs.Words.{closed}
use Rattle.root_row.specs.Seats.{Seated}
use Rattle.root_row.specs.Made as made
use Rattle.root_row.specs.Made.{AreNew}
use Rattle.gourzhiel.specs.declared.handles.GzBook.{GzBook}
use Rattle.gourzhiel.specs.declared.handles.GzLeaf.{GzLeaf}
use Rattle.gourzhiel.specs.declared.handles.GzReader.{GzReader}
use Rattle.gourzhiel.specs.Numbers.{out_of_memory, too_many_leaves}

-- all are of one row over these modules, none has seen anything, and the leaf and the reader at each place have its number
pub record IsTable (modules : List Module) (workers count : ℕ) (book : Seated) (leaves readers : List Seated) : Type 0 where
  pub world : book.view.world ≡ record { catalogue = modules; workers = workers }
  pub new_book : book ≡ made.new_book book.row book.view.world
  pub new_leaves : AreNew (made.new_leaf book.row book.view.world) workers leaves
  pub new_readers : AreNew (made.new_reader book.row book.view.world) count readers

-- all handles are full
pub record AreFull (book : GzBook) (leaves : List GzLeaf) (readers : List GzReader) : Type 0 where
  pub has_book : book.full ≡ true
  pub has_leaves : All (λ h. h.full ≡ true) leaves
  pub has_readers : All (λ h. h.full ≡ true) readers

-- why no table was made: this many leaves are too many, or they are not and there was no memory
abbrev pub NoneMade : ℕ → ℕ → Type 0
NoneMade workers number =
    MatchBool (nat_lt workers closed) (number ≡ out_of_memory) (number ≡ too_many_leaves)

-- the handles after a table was made: all are full, with its parts; or none was touched, and the number says why
abbrev pub HandlesMade : List Module → ℕ → GzBook → GzBook → List GzLeaf → List GzLeaf → List GzReader → List GzReader → Type 0
HandlesMade modules number no_book book no_leaves leaves no_readers readers =
    MatchBool (number == 0)
    (AreFull book leaves readers × IsTable modules (length no_leaves) (length no_readers) book.held (map (λ h. h.held) leaves) (map (λ h. h.held) readers))
    ((book ≡ no_book) × (leaves ≡ no_leaves) × (readers ≡ no_readers) × NoneMade (length no_leaves) number)
