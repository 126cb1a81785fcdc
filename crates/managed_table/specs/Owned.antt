-- A caller alone, without its table, and a teller.
use Rattle.std.specs.Prelude.{◌≡◌, ◌<◌, ◌≤◌, ◌⊎◌, ℕ, Option, Some, None, MatchOption}
use Rattle.dep_index.specs.Table.{Table}
use Rattle.root_row.specs.Seats.{RowIs, Seated}
use Rattle.root_row.specs.World.{slots}
use Rattle.managed_table.specs.Callers.{CallerIs}
use Rattle.managed_table.specs.Turns.{no_seat}
use Rattle.managed_table.specs.Shown.{HasLoadedAt, HasNoneAt}

abbrev pub row_of : CallerIs → RowIs
row_of caller = caller.leaves.pass.row.value

-- the other caller is of the same table
abbrev pub SameTable : CallerIs → CallerIs → Type 0
SameTable caller other =
    (other.leaves.table ≡ caller.leaves.table) × (other.book.table ≡ caller.book.table)
    × (row_of other ≡ row_of caller) × (other.book.pass.row.value ≡ caller.book.pass.row.value)

-- the worker or the slot is none of the table
abbrev pub IsBeyond : CallerIs → ℕ → ℕ → Type 0
IsBeyond caller worker slot = ((row_of caller).world.workers ≤ worker) ⊎ (slots (row_of caller).world ≤ slot)

-- both are of the table
abbrev pub IsWithin : CallerIs → ℕ → ℕ → Type 0
IsWithin caller worker slot = (worker < (row_of caller).world.workers) × (slot < slots (row_of caller).world)

-- the module that stands at this place in the order of loading, or none
abbrev pub Has : ℕ → Option ℕ → Table → Type 0
Has place found table = MatchOption found (HasNoneAt place table) (λ slot. HasLoadedAt place slot table)

-- a teller's reader; it has none while it is in a call
abbrev pub reader_in : Option Seated → Seated
reader_in None = no_seat
reader_in (Some reader) = reader
