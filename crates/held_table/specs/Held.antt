-- The table of modules by the holders that there are, each known by a name.
use Rattle.std.specs.Prelude.{ℕ, ◌≡◌, ◌==◌, ◌≤◌, nat_le, Bool, ◌||◌, if◌then◌else◌, ◌∷◌, ◌++◌, List, [], length, replicate, slice_index, slice_index_or, slice_set, swap_remove, unwrap_or, is_some}
use Rattle.std.specs.List.{list_all}
use Rattle.dep_index.specs.Table.{Module, Table}
use Rattle.dep_index.specs.Laws.{IsShaped, IsLawful}
use Rattle.held_table.specs.Names.{place_of}

-- the table, whose workers are the holders, and their names in the same order
pub record Held : Type 0 where
  pub table : Table
  pub names : List (List ℕ)

-- a catalogue, the table over it with its names, and how many more modules each holder may hold without memory
pub record HeldOver : Type 0 where
  pub catalogue : List Module
  pub held : Held
  pub spare : List ℕ

-- the number of a holder: its place, or the first one behind the others
abbrev pub number_of : List (List ℕ) → List ℕ → ℕ
number_of names holder = unwrap_or (place_of names holder) (length names)

-- the holder is there, or as many are there as there can be
abbrev pub is_there_or_full : List (List ℕ) → List ℕ → Bool
is_there_or_full names holder = is_some (place_of names holder) || nat_le 65536 (length names)

-- a holder that holds nothing comes behind the others
abbrev pub with_holder : Held → List ℕ → Held
with_holder h holder = record {
  table = record { book = h.table.book; rows = h.table.rows ++ replicate (length h.table.book.states) 0 ∷ [] };
  names = h.names ++ holder ∷ [];
}

-- a new holder comes in, unless 65,536 are there
abbrev pub entered : Held → List ℕ → Held
entered h holder = if is_there_or_full h.names holder then h else with_holder h holder

-- the row has no count but zeros
abbrev pub is_idle : List ℕ → Bool
is_idle row = list_all (λ count. count == 0) row

-- the holder of a number holds nothing
abbrev pub holds_nothing : Table → ℕ → Bool
holds_nothing table number = is_idle (slice_index_or table.rows number [])

-- the holder of a number goes, and the last one takes its number
abbrev pub without_holder : Held → ℕ → Held
without_holder h number = record {
  table = record { book = h.table.book; rows = swap_remove h.table.rows number [] };
  names = swap_remove h.names number [];
}

-- a holder that holds nothing goes
abbrev pub settled : Held → ℕ → Held
settled h number = if holds_nothing h.table number then without_holder h number else h

-- the table with another row of a holder
abbrev pub with_row : Table → ℕ → List ℕ → Table
with_row table number row = record { book = table.book; rows = slice_set table.rows number row }

-- the holder has given back all that it held
abbrev pub all_given_back : ℕ → Table → Table
all_given_back number table = with_row table number (replicate (length table.book.states) 0)

-- each count is zero
abbrev pub IsIdle : List ℕ → Type 0
IsIdle row = (m : ℕ) → slice_index row m ≡ 0

-- the table has its limits, its shape and its laws, and a name for each holder
pub record IsKept (catalogue : List Module) (held : Held) : Type 0 where
  pub slots : length catalogue ≤ 65535
  pub workers : length held.table.rows ≤ 65536
  pub shape : IsShaped (length catalogue) (length held.table.rows) held.table
  pub lawful : IsLawful catalogue held.table
  pub named : length held.names ≡ length held.table.rows
