-- What contracts see of a managed table and of a caller.
use Rattle.std.specs.Prelude.{◌≡◌, ◌⊎◌, ℕ, ◌<◌, ◌≤◌, []}
use Rattle.atomic_table.specs.Seated.{TableId}
use Rattle.atomic_table.specs.declared.shared.Seat.{Seat}
use Rattle.root_row.specs.Seats.{RowIs, Seated}
use Rattle.dep_index.specs.declared.table.calls.Call.{Call}
use Rattle.dep_index.specs.declared.table.calls.Reply.{Reply}
use Rattle.dep_index.specs.Table.{Table}
use Rattle.root_row.specs.declared.view.SeatName.TheVariants as name_is
use Rattle.root_row.specs.World.{slots}
use Rattle.managed_table.specs.declared.view.Pass.{Pass}
use Rattle.managed_table.specs.declared.view.Passes.{Passes}
use Rattle.managed_table.specs.Kept.{shown, leaf_fits, book_fits}
use Rattle.managed_table.specs.Turns.{pass_of, new_pass, with_further, further_of, with_misses, MadeTurn, MadeOneCall, MadeNoCall}

-- its row, and which tables of locks are its leaves' and its book's
pub record ManagedIs : Type 0 where
  pub row : RowIs
  pub leaves : TableId
  pub book : TableId

-- which locks a pass is for, and what it has done
pub record PassIs : Type 0 where
  pub table : TableId
  pub pass : Pass

abbrev pub pass_is : {T : Type 0} → Seat T Passes → PassIs
pass_is seat = record { table = seat.table_id; pass = pass_of seat.me.0 }

pub record CallerIs : Type 0 where
  pub leaves : PassIs
  pub book : PassIs

-- both passes are for the table's locks
abbrev pub IsCallerOf : ManagedIs → CallerIs → Type 0
IsCallerOf table caller =
    (caller.leaves.table ≡ table.leaves) × (caller.leaves.pass.row.value ≡ table.row)
    × (caller.book.table ≡ table.book) × (caller.book.pass.row.value ≡ table.row)

-- the first caller of a table: it has done nothing, and no further one came from it, so there is no other
abbrev pub IsFirst : CallerIs → Type 0
IsFirst caller = (caller.leaves.pass ≡ new_pass caller.leaves.pass.row.value []) × (caller.book.pass ≡ new_pass caller.book.pass.row.value [])

-- the pass, when one further came from it, and that further one
abbrev pub as_parent : PassIs → PassIs
as_parent p = record { table = p.table; pass = with_further p.pass }

abbrev pub further_from : PassIs → PassIs
further_from p = record { table = p.table; pass = further_of p.pass }

-- one further caller came from the caller, who did nothing else; the further one is of the same table, and has done nothing
pub record GaveFurther (old new further : CallerIs) : Type 0 where
  pub parent : new ≡ record { leaves = as_parent old.leaves; book = as_parent old.book }
  pub child : further ≡ record { leaves = further_from old.leaves; book = further_from old.book }

-- worker and slot are in range, or not
abbrev pub IsInside : ManagedIs → ℕ → ℕ → Type 0
IsInside table worker slot = (worker < table.row.world.workers) × (slot < slots table.row.world)

abbrev pub IsOutside : ManagedIs → ℕ → ℕ → Type 0
IsOutside table worker slot = (table.row.world.workers ≤ worker) ⊎ (slots table.row.world ≤ slot)

-- the pass, when it has found the lock taken so often more
abbrev pub past_misses : PassIs → ℕ → ℕ → PassIs
past_misses p lock times = record { table = p.table; pass = with_misses p.pass lock times }

-- the caller found the lock of the worker's leaf taken so often, and did nothing else
abbrev pub LeafMissed : ℕ → ℕ → CallerIs → CallerIs → Type 0
LeafMissed worker times old new = new ≡ record { leaves = past_misses old.leaves worker times; book = old.book }

-- or the book's
abbrev pub BookMissed : ℕ → CallerIs → CallerIs → Type 0
BookMissed times old new = new ≡ record { leaves = old.leaves; book = past_misses old.book 0 times }

-- through the caller, in one turn, this was done with the worker's leaf
abbrev pub LeafTurned : ℕ → (Seated → Seated → Type 0) → CallerIs → CallerIs → Type 0
LeafTurned worker Did old new = MadeTurn leaf_fits shown worker Did old.leaves.pass new.leaves.pass

-- or with the book
abbrev pub BookTurned : (Seated → Seated → Type 0) → CallerIs → CallerIs → Type 0
BookTurned Did old new = MadeTurn book_fits shown 0 Did old.book.pass new.book.pass

-- through the caller, in one turn, the worker's leaf made this one call, which was answered so
abbrev pub LeafMade : ManagedIs → ℕ → Call → Reply → CallerIs → CallerIs → Type 0
LeafMade table worker call reply old new = MadeOneCall table.row worker (name_is.Leaf worker) call reply old.leaves.pass new.leaves.pass

-- and so did the book
abbrev pub BookMade : ManagedIs → Call → Reply → CallerIs → CallerIs → Type 0
BookMade table call reply old new = MadeOneCall table.row 0 name_is.Book call reply old.book.pass new.book.pass

-- in one turn without a call, the worker's leaf showed this of the table
abbrev pub LeafShown : ManagedIs → ℕ → (Table → Type 0) → CallerIs → CallerIs → Type 0
LeafShown table worker Shows old new = MadeNoCall table.row worker Shows old.leaves.pass new.leaves.pass

-- and so did the book
abbrev pub BookShown : ManagedIs → (Table → Type 0) → CallerIs → CallerIs → Type 0
BookShown table Shows old new = MadeNoCall table.row 0 Shows old.book.pass new.book.pass
