-- The one-thread table: which modules are loaded, in which state, and who holds references to them.
pub mod Kept
pub mod Ordered
use Rattle.std.specs.Prelude.{ℕ, ◌+◌, ◌==◌, nat_lt, Bool, true, false, List, [], length, filter, count_by, slice_index, slice_index_or}
use Rattle.std.specs.List.{sum_by, list_any}
use Rattle.dep_index.specs.declared.table.states.ModuleState.{ModuleState}
use Rattle.dep_index.specs.declared.table.states.ModuleState.TheVariants.{Absent, Loading, Live, Draining, Unloading}

-- what the catalogue says of a slot: the slots that it needs, in the order of its symbols
pub record Module : Type 0 where
  pub needs : List ℕ
  pub unknown_symbol : Bool
  pub permanent : Bool

-- what is said of a slot past the end
abbrev pub no_module : Module
no_module = record { needs = []; unknown_symbol = false; permanent = false }

-- what the catalogue says of a slot
abbrev pub module_at : List Module → ℕ → Module
module_at catalogue m = slice_index_or catalogue m no_module

-- the states of all slots, and the slots that are not Absent, the oldest first
pub record Book : Type 0 where
  pub states : List ModuleState
  pub order : List ℕ

-- a book, and for each worker the row of its counts: how often it holds each slot
pub record Table : Type 0 where
  pub book : Book
  pub rows : List (List ℕ)

-- the state of a slot; Absent past the end
abbrev pub state_of : Book → ℕ → ModuleState
state_of book m = slice_index_or book.states m Absent

-- the module is not in the table
abbrev pub is_absent : ModuleState → Bool
is_absent Absent = true
is_absent _ = false

-- its load has begun
abbrev pub is_loading : ModuleState → Bool
is_loading Loading = true
is_loading _ = false

-- it is loaded
abbrev pub is_live : ModuleState → Bool
is_live Live = true
is_live _ = false

-- it gives no further reference
abbrev pub is_draining : ModuleState → Bool
is_draining Draining = true
is_draining _ = false

-- its removal has begun
abbrev pub is_unloading : ModuleState → Bool
is_unloading Unloading = true
is_unloading _ = false

-- references may be held to it
abbrev pub takes_references : ModuleState → Bool
takes_references Live = true
takes_references Draining = true
takes_references _ = false

-- how often the worker holds the slot
abbrev pub count_of : Table → ℕ → ℕ → ℕ
count_of table w m = slice_index (slice_index_or table.rows w []) m

-- how many workers hold the slot
abbrev pub holders : List (List ℕ) → ℕ → ℕ
holders rows m = count_by (λ row. nat_lt 0 (slice_index row m)) rows

-- how many references there are to the slot: each pair as often as it is held
abbrev pub pairs : List (List ℕ) → ℕ → ℕ
pairs rows m = sum_by (λ row. slice_index row m) rows

-- some worker holds the slot
abbrev pub is_held : Table → ℕ → Bool
is_held table m = nat_lt 0 (holders table.rows m)

-- slot u needs slot m
abbrev pub needs_slot : List Module → ℕ → ℕ → Bool
needs_slot catalogue m u = list_any (λ n. n == m) (module_at catalogue u).needs

-- the modules of the table, in any state, that need m, the oldest first
abbrev pub users : List Module → Book → ℕ → List ℕ
users catalogue book m = filter (needs_slot catalogue m) book.order

-- some module of the table needs m
abbrev pub has_users : List Module → Book → ℕ → Bool
has_users catalogue book m = list_any (needs_slot catalogue m) book.order

-- the reference number of a listing
abbrev pub references : List Module → Table → ℕ → ℕ
references catalogue table m = pairs table.rows m + length (users catalogue table.book m)
