-- A managed call, whichever it is: when it can be made, and that it was.
use Rattle.std.specs.Prelude.{◌≡◌, ℕ, ◌<◌}
use Rattle.dep_index.specs.declared.table.calls.Call.{Call}
use Rattle.dep_index.specs.declared.table.calls.Call.TheVariants.{Get, Put, InUse, BeginLoad, EndLoad, BeginDrain, BeginRemove, EndRemove, CancelRemove}
use Rattle.dep_index.specs.declared.table.calls.Reply.{Reply}
use Rattle.root_row.specs.World.{slots}
use Rattle.managed_table.specs.Callers.{ManagedIs, CallerIs, IsInside, LeafMade, BookMade}

-- its worker and its slot are in range, and it is no query, which takes no lock
abbrev pub CanBeMade : ManagedIs → Call → Type 0
CanBeMade table (Get worker slot) = IsInside table worker slot
CanBeMade table (Put worker slot) = IsInside table worker slot
CanBeMade table (InUse slot) = ⊥
CanBeMade table (BeginLoad slot) = slot < slots table.row.world
CanBeMade table (EndLoad slot ok) = slot < slots table.row.world
CanBeMade table (BeginDrain slot) = slot < slots table.row.world
CanBeMade table (BeginRemove slot) = slot < slots table.row.world
CanBeMade table (EndRemove slot) = slot < slots table.row.world
CanBeMade table (CancelRemove slot) = slot < slots table.row.world

-- the worker's leaf made this one call, in one turn of the caller, who did nothing else
abbrev pub LeafMadeOnce : ManagedIs → ℕ → Call → Reply → CallerIs → CallerIs → Type 0
LeafMadeOnce table worker call reply old new = LeafMade table worker call reply old new × (new.book ≡ old.book)

-- and so did the book
abbrev pub BookMadeOnce : ManagedIs → Call → Reply → CallerIs → CallerIs → Type 0
BookMadeOnce table call reply old new = BookMade table call reply old new × (new.leaves ≡ old.leaves)

-- the call was made once, by the leaf of its worker or by the book, and was answered so
abbrev pub CallMade : ManagedIs → Call → Reply → CallerIs → CallerIs → Type 0
CallMade table (Get worker slot) = LeafMadeOnce table worker (Get worker slot)
CallMade table (Put worker slot) = LeafMadeOnce table worker (Put worker slot)
CallMade table (InUse slot) = λ reply old new. ⊥
CallMade table (BeginLoad slot) = BookMadeOnce table (BeginLoad slot)
CallMade table (EndLoad slot ok) = BookMadeOnce table (EndLoad slot ok)
CallMade table (BeginDrain slot) = BookMadeOnce table (BeginDrain slot)
CallMade table (BeginRemove slot) = BookMadeOnce table (BeginRemove slot)
CallMade table (EndRemove slot) = BookMadeOnce table (EndRemove slot)
CallMade table (CancelRemove slot) = BookMadeOnce table (CancelRemove slot)
