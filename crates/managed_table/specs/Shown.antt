-- What a look at a leaf or at the book shows of the table after what it has seen.
use Rattle.std.specs.Prelude.{◌≡◌, ℕ, ◌<◌, ◌≤◌, List, length, slice_index}
use mathlib.Core.Option.{some}
use lib.ListN.{get_elem?}
use Rattle.dep_index.specs.declared.table.states.ModuleState.{ModuleState}
use Rattle.dep_index.specs.Table.{Table, state_of}

-- the worker holds the module so often
abbrev pub HoldsSoOften : ℕ → ℕ → ℕ → Table → Type 0
HoldsSoOften worker slot count t = (row : List ℕ) × (get_elem? t.rows worker ≡ some row) × (slice_index row slot ≡ count)

abbrev pub IsInState : ℕ → ModuleState → Table → Type 0
IsInState slot state t = state_of t.book slot ≡ state

-- so many modules are loaded, in any state
abbrev pub HasLoaded : ℕ → Table → Type 0
HasLoaded count t = length t.book.order ≡ count

-- the module stands at this place in the order of loading
abbrev pub HasLoadedAt : ℕ → ℕ → Table → Type 0
HasLoadedAt place slot t = (place < length t.book.order) × (slice_index t.book.order place ≡ slot)

-- no module stands at this place
abbrev pub HasNoneAt : ℕ → Table → Type 0
HasNoneAt place t = length t.book.order ≤ place
