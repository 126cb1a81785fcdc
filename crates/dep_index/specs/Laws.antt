-- What holds of the one-thread table after every list of calls.
use Rattle.std.specs.Prelude.{◌≡◌, ◌≢◌, ℕ, ◌==◌, ◌<◌, ◌≤◌, true, false, List, [], ◌∷◌, length, count_by, slice_index_or, ◌⊎◌, if◌then◌else◌}
use Rattle.dep_index.specs.declared.table.states.ModuleState.TheVariants.{Live}
use Rattle.dep_index.specs.declared.table.calls.Call.{Call}
use Rattle.dep_index.specs.declared.table.calls.Call.TheVariants.{Get, EndLoad, BeginDrain, BeginRemove, EndRemove, CancelRemove}
use Rattle.dep_index.specs.declared.table.calls.Reply.TheVariants.{Done, NotLive}
use Rattle.dep_index.specs.Table.{Module, Book, Table, state_of, is_absent, takes_references, needs_slot, users, pairs, count_of}
use Rattle.dep_index.specs.Calls.{reply, next, after, opening, IsInRange}

-- a state for each slot, and a count for each worker and slot
pub record IsShaped (slots workers : ℕ) (table : Table) : Type 0 where
  pub states : length table.book.states ≡ slots
  pub rows : length table.rows ≡ workers
  pub row : (w : ℕ) → w < workers → length (slice_index_or table.rows w []) ≡ slots

-- order has each slot that is not Absent once, and no other
abbrev pub OrderIsExact : Book → Type 0
OrderIsExact book = (m : ℕ) → count_by (λ s. s == m) book.order ≡ (if is_absent (state_of book m) then 0 else 1)

-- a pair names a Live or a Draining module, and is held at most 65,535 times
abbrev pub PairsAreOpen : Table → Type 0
PairsAreOpen table =
    (w m : ℕ) → 0 < count_of table w m → (takes_references (state_of table.book m) ≡ true) × (count_of table w m ≤ 65535)

-- each need of a module of the table is Live
abbrev pub NeedsAreLive : List Module → Book → Type 0
NeedsAreLive catalogue book =
    (u n : ℕ) → is_absent (state_of book u) ≡ false → needs_slot catalogue n u ≡ true → state_of book n ≡ Live

-- the laws of a table
pub record IsLawful (catalogue : List Module) (table : Table) : Type 0 where
  pub order : OrderIsExact table.book
  pub pairs : PairsAreOpen table
  pub needs : NeedsAreLive catalogue table.book

-- the calls that may follow one another on a table of so many workers
abbrev pub AllInRange : List Module → ℕ → List Call → Type 0
AllInRange catalogue workers [] = Unit {0}
AllInRange catalogue workers (call ∷ calls) =
    IsInRange (length catalogue) workers call × AllInRange catalogue workers calls

-- whatever calls are made, the table is lawful
abbrev pub AlwaysLawful : Type 0
AlwaysLawful =
    (catalogue : List Module) (workers : ℕ) (calls : List Call) → AllInRange catalogue workers calls
    → IsLawful catalogue (after catalogue (opening catalogue workers) calls)

-- the call removes m, or is a step of its removal
abbrev pub IsRemoval : ℕ → Call → Type 0
IsRemoval m call = (call ≡ BeginRemove m) ⊎ (call ≡ EndRemove m)

-- if a removal answers Ok, no pair names the module, and it has no users
abbrev pub RemovesUnused : Type 0
RemovesUnused =
    (catalogue : List Module) (workers : ℕ) (calls : List Call) (m : ℕ) (call : Call)
    → AllInRange catalogue workers calls → IsRemoval m call
    → let table = after catalogue (opening catalogue workers) calls in
    reply catalogue table call ≡ Done
    → (pairs table.rows m ≡ 0) × (users catalogue table.book m ≡ [])

-- the call makes m Live: its load ends well, or its removal is called off
abbrev pub IsReviving : ℕ → Call → Type 0
IsReviving m call = (call ≡ EndLoad m true) ⊎ (call ≡ CancelRemove m)

-- no call of these makes m Live again
abbrev pub NoRevival : List Module → ℕ → Table → List Call → Type 0
NoRevival catalogue m table [] = Unit {0}
NoRevival catalogue m table (call ∷ calls) =
    (IsReviving m call → reply catalogue table call ≢ Done) × NoRevival catalogue m (next catalogue table call) calls

-- the call shuts m to each further get
abbrev pub IsShutting : ℕ → Call → Type 0
IsShutting m call = (call ≡ BeginRemove m) ⊎ ((call ≡ EndRemove m) ⊎ (call ≡ BeginDrain m))

-- after such an Ok each get of m answers NotLive, until m is Live again
abbrev pub StaysShut : Type 0
StaysShut =
    (catalogue : List Module) (table : Table) (m w : ℕ) (call : Call) (between : List Call)
    → IsShutting m call → reply catalogue table call ≡ Done
    → NoRevival catalogue m (next catalogue table call) between
    → reply catalogue (after catalogue (next catalogue table call) between) (Get w m) ≡ NotLive

-- a drain or a removal that is begun and at once called off leaves the table as it was
abbrev pub CancelUndoes : Type 0
CancelUndoes =
    (catalogue : List Module) (table : Table) (m : ℕ) (call : Call)
    → (call ≡ BeginDrain m) ⊎ (call ≡ BeginRemove m) → m < length table.book.states
    → reply catalogue table call ≡ Done
    → let begun = next catalogue table call in
    (reply catalogue begun (CancelRemove m) ≡ Done) × (next catalogue begun (CancelRemove m) ≡ table)
