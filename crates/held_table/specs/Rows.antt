-- What each holder holds, as the program keeps it. This file serves proofs alone.
use Rattle.std.specs.Prelude.{ℕ, ◌≡◌, ◌≢◌, ◌<◌, ◌≤◌, nat_eq, List, [], ◌++◌, drop, map, length, replicate, slice_index, slice_index_or, Some, unwrap_or}
use Rattle.std.specs.List.{range_with_len}
use Rattle.std.specs.Map.{lookup}
use Rattle.dep_index.specs.Table.{Book, Module, pairs}
use Rattle.held_table.specs.Held.{Held, HeldOver}

-- the slots that a holder holds, each with its count, and how many more fit without memory
pub record Holding : Type 0 where
  pub counts : List (ℕ × ℕ)
  pub spare : ℕ

-- how often a slot stands in the counts
abbrev pub count_in : List (ℕ × ℕ) → ℕ → ℕ
count_in counts m = unwrap_or (lookup (nat_eq m) counts) 0

-- no count is zero
abbrev pub IsPositive : List (ℕ × ℕ) → Type 0
IsPositive counts = (m : ℕ) → lookup (nat_eq m) counts ≢ Some 0

-- a holder's row of counts
abbrev pub row_of : ℕ → Holding → List ℕ
row_of slots holding = map (count_in holding.counts) (range_with_len 0 slots)

-- a row of one that holds nothing
abbrev pub nothing : ℕ → List ℕ
nothing slots = replicate slots 0

-- what is said past the end
abbrev pub no_holding : Holding
no_holding = record { counts = []; spare = 0 }

-- the rows of all holders, and how many more slots each may hold without memory
pub record Rows : Type 0 where
  pub slots : ℕ
  pub rows : List (List ℕ)
  pub spare : List ℕ

abbrev pub rows_of : ℕ → List Holding → Rows
rows_of slots holdings =
    record { slots = slots; rows = map (row_of slots) holdings; spare = map (λ h. h.spare) holdings }

-- what a holder holds; nothing past the end
abbrev pub held_at : List Holding → ℕ → List (ℕ × ℕ)
held_at holdings w = (slice_index_or holdings w no_holding).counts

-- what holds of the holdings and of the totals by slot
pub record AreTotalled (holdings : List Holding) (totals : List ℕ) : Type 0 where
  pub slots : length totals ≤ 65535
  pub few : length holdings ≤ 65536
  pub within : (w m : ℕ) → length totals ≤ m → count_in (held_at holdings w) m ≡ 0
  pub small : (w m : ℕ) → count_in (held_at holdings w) m ≤ 65535
  pub sums : (m : ℕ) → m < length totals → slice_index totals m ≡ pairs (map (row_of (length totals)) holdings) m

-- the fields of a table as its definitions see them
abbrev pub held_in : Book → Rows → List (List ℕ) → Held
held_in book rows names = record { table = record { book = book; rows = rows.rows }; names = names }

abbrev pub over_in : List Module → Book → Rows → List (List ℕ) → HeldOver
over_in catalogue book rows names = record { catalogue = catalogue; held = held_in book rows names; spare = rows.spare }
